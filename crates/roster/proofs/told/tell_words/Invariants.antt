use Rattle.std.proofs.Common.{◌≡◌, ◌++◌, codes, decimal, string_bytes, take}
use Rattle.std.specs.List.{flat_map}
use Rattle.roster.proofs.told.tell_words.Given as goal

abbrev pub invariant-loop-word : goal.invariant-loop-word
invariant-loop-word l = string_bytes l.line ≡ string_bytes l.initial.line ++ flat_map (λ w. codes " " ++ decimal w) (take l.word-index l.rest)
