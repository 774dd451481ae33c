use Rattle.columnar_base.specs.SameRows.{RestDecides}
use Rattle.columnar_rows.proofs.ordered.same_rows_of.Given as goal

abbrev pub invariant-loop-i : goal.invariant-loop-i
invariant-loop-i g l = RestDecides (g.S.Column.format.rows (g.S.Column.content l.left)) (g.S.Column.format.rows (g.S.Column.content l.right)) l.i
