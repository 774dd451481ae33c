use Rattle.std.proofs.Common.{map, rules}
use Rattle.columnar_rows.specs.ItemLaws.{item_row, items_end}
use Rattle.columnar_rows.specs.RowOrderLaws.{order_found, order_more}
use Rattle.columnar_rows.proofs.ordered.slices.compare_items.Goals as goal

pub returns-then-is_ne : goal.returns-then-is_ne
returns-then-is_ne g c =
    order_found (map g.T.Item.meaning c.args.left.now) (map g.T.Item.meaning c.args.right.now) c.loop-i.i (g.T.Item.meaning c.index-left-i.result) (g.T.Item.meaning c.index-right-i.result) c.compare_row-found.result
    (item_row g.T.Item.meaning c.args.left.now c.loop-i.i c.index-left-i.result (search rules) c.index-left-i.is)
    (item_row g.T.Item.meaning c.args.right.now c.loop-i.i c.index-right-i.result (search rules) c.index-right-i.is)
    c.compare_row-found.ensures (search rules) c.loop-i.invariant

pub loop-i-preserved : goal.loop-i-preserved
loop-i-preserved g c =
    order_more (map g.T.Item.meaning c.args.left.now) (map g.T.Item.meaning c.args.right.now) c.loop-i.i (g.T.Item.meaning c.index-left-i.result) (g.T.Item.meaning c.index-right-i.result) c.compare_row-found.result
    (item_row g.T.Item.meaning c.args.left.now c.loop-i.i c.index-left-i.result (search rules) c.index-left-i.is)
    (item_row g.T.Item.meaning c.args.right.now c.loop-i.i c.index-right-i.result (search rules) c.index-right-i.is)
    c.compare_row-found.ensures (search rules) c.loop-i.invariant

pub returns : goal.returns
returns g c = items_end g.T.Item.meaning c.args.left.now c.args.right.now c.loop-i.i c.cmp.result (search rules) c.cmp.ensures c.loop-i.invariant
