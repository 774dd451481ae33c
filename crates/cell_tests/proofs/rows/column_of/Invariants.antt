use Rattle.columnar_core.specs.Format.{IsSound}
use Rattle.cell_tests.proofs.rows.column_of.Given as goal

abbrev pub invariant-loop-i : goal.invariant-loop-i
invariant-loop-i g l = IsSound g.C.Column.format (g.C.Column.content l.column)
