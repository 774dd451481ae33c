use Rattle.columnar_rows.specs.RowOrderLaws.{RestOrders}
use Rattle.columnar_rows.proofs.ordered.compare_rows_of.Given as goal

abbrev pub invariant-loop-i : goal.invariant-loop-i
invariant-loop-i g l = RestOrders (g.S.Column.format.rows (g.S.Column.content l.left)) (g.S.Column.format.rows (g.S.Column.content l.right)) l.i
