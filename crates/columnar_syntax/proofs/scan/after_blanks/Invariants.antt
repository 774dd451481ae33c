use Rattle.std.proofs.Common.{◌≡◌, drop}
use Rattle.columnar_syntax.specs.Tokens.{tokens}
use Rattle.columnar_syntax.proofs.scan.after_blanks.Given as goal

abbrev pub invariant-loop-i : goal.invariant-loop-i
invariant-loop-i l = tokens (drop l.at l.text) ≡ tokens (drop l.i l.text)
