use Rattle.columnar_core.specs.Format.{IsSound}
use Rattle.cell_tests.proofs.rows.repeated.Given as goal

abbrev pub invariant-loop-row : goal.invariant-loop-row
invariant-loop-row g l = IsSound g.C.Column.format (g.C.Column.content l.column)
