use Rattle.std.proofs.Common.{rules}
use Rattle.columnar_rows.specs.RowOrderLaws.{order_found, order_more, order_end}
use Rattle.columnar_rows.proofs.ordered.compare_rows_of.Goals as goal

pub returns-then-is_ne : goal.returns-then-is_ne
returns-then-is_ne g c = order_found _ _ c.loop-i.i _ _ c.compare_row-found.result c.get.ensures.row c.get-in-loop-i.ensures.row c.compare_row-found.ensures (search rules) c.loop-i.invariant

pub loop-i-preserved : goal.loop-i-preserved
loop-i-preserved g c = order_more _ _ c.loop-i.i _ _ c.compare_row-found.result c.get.ensures.row c.get-in-loop-i.ensures.row c.compare_row-found.ensures (search rules) c.loop-i.invariant

pub returns : goal.returns
returns g c = order_end (g.S.Column.format.rows (g.S.Column.content c.args.left.now)) (g.S.Column.format.rows (g.S.Column.content c.args.right.now)) c.loop-i.i c.cmp.result (search rules) (search rules) c.loop-i.invariant
