use Rattle.columnar_core.specs.Format.{IsSound}
use Rattle.value_tests.proofs.offsets.answers.Given as goal

abbrev pub invariant-loop-case : goal.invariant-loop-case
invariant-loop-case g l = IsSound g.C.Column.format (g.C.Column.content l.column)
