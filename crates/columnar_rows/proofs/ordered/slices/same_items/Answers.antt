use Rattle.std.proofs.Common.{map, ◌∙◌, ◌≡◌, length, sym, rules}
use Rattle.std.proofs.lemmas.List.{length-map}
use Rattle.columnar_base.specs.SameRowsLaws.{rest_more, rest_differs, other_length}
use Rattle.columnar_rows.specs.ItemLaws.{item_row, other_items}
use Rattle.columnar_rows.proofs.ordered.slices.same_items.Goals as goal

pub returns-then-count-right : goal.returns-then-count-right
returns-then-count-right g c = other_items g.T.Item.meaning c.args.left.now c.args.right.now c.if-count-right.true

pub returns-then-not-same_row : goal.returns-then-not-same_row
returns-then-not-same_row g c =
    rest_differs (map g.T.Item.meaning c.args.left.now) (map g.T.Item.meaning c.args.right.now) c.loop-i.i (g.T.Item.meaning c.index-left-i.result) (g.T.Item.meaning c.index-right-i.result)
    (item_row g.T.Item.meaning c.args.left.now c.loop-i.i c.index-left-i.result (search rules) c.index-left-i.is)
    (item_row g.T.Item.meaning c.args.right.now c.loop-i.i c.index-right-i.result (search rules) c.index-right-i.is) (search rules) c.loop-i.invariant

pub loop-i-preserved : goal.loop-i-preserved
loop-i-preserved g c =
    rest_more (map g.T.Item.meaning c.args.left.now) (map g.T.Item.meaning c.args.right.now) c.loop-i.i (g.T.Item.meaning c.index-left-i.result) (g.T.Item.meaning c.index-right-i.result)
    (item_row g.T.Item.meaning c.args.left.now c.loop-i.i c.index-left-i.result (search rules) c.index-left-i.is)
    (item_row g.T.Item.meaning c.args.right.now c.loop-i.i c.index-right-i.result (search rules) c.index-right-i.is) (search rules) c.loop-i.invariant
