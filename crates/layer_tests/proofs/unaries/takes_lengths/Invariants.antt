use Rattle.columnar_base.specs.Format.{IsSound}
use Rattle.layer_tests.proofs.unaries.takes_lengths.Given as goal

abbrev pub invariant-loop-length : goal.invariant-loop-length
invariant-loop-length g l = IsSound g.C.Column.format (g.C.Column.content l.column)
