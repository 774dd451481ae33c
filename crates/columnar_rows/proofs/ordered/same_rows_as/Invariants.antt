use Rattle.std.proofs.Common.{map}
use Rattle.columnar_base.specs.SameRows.{RestDecides}
use Rattle.columnar_rows.proofs.ordered.same_rows_as.Given as goal

abbrev pub invariant-loop-i : goal.invariant-loop-i
invariant-loop-i g l = RestDecides (g.S.Column.format.rows (g.S.Column.content l.column)) (map g.S.Ref.Item.meaning l.items) l.i
