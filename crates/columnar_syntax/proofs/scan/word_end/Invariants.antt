use Rattle.std.proofs.Common.{◌≡◌, ◌+◌, drop}
use Rattle.columnar_syntax.specs.Reading.{word_length}
use Rattle.columnar_syntax.proofs.scan.word_end.Given as goal

abbrev pub invariant-loop-i : goal.invariant-loop-i
invariant-loop-i l = l.at + word_length (drop l.at l.text) ≡ l.i + word_length (drop l.i l.text)
