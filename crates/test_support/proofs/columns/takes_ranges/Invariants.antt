use Rattle.columnar_base.specs.Format.{IsSound}
use Rattle.test_support.proofs.columns.takes_ranges.Given as goal

abbrev pub invariant-loop-range : goal.invariant-loop-range
invariant-loop-range g l = IsSound g.C.Column.format (g.C.Column.content l.column)
