use Rattle.std.proofs.Common.{◌∙◌, rules, map}
use Rattle.std.proofs.lemmas.List.{length-map}
use Rattle.columnar_base.specs.ExtendLaws.{item_row_at}
use Rattle.columnar_base.specs.SameRowsLaws.{rest_more, rest_differs, other_length}
use Rattle.columnar_rows.proofs.ordered.same_rows_as.Goals as goal

pub returns-then-count-items : goal.returns-then-count-items
returns-then-count-items g c = other_length (g.S.Column.format.rows (g.S.Column.content c.args.column.now)) (map g.S.Ref.Item.meaning c.args.items.now) (λ e. c.if-count-items.true (c.len-count.ensures ∙ e ∙ length-map c.args.items.now g.S.Ref.Item.meaning))

pub returns-then-not-same_row : goal.returns-then-not-same_row
returns-then-not-same_row g c = rest_differs _ _ c.loop-i.i _ _ c.get.ensures.row (item_row_at g.S.Ref.Item.meaning c.args.items.now c.loop-i.i c.index-items-i.result (search rules) c.index-items-i.is) (search rules) c.loop-i.invariant

pub loop-i-preserved : goal.loop-i-preserved
loop-i-preserved g c = rest_more _ _ c.loop-i.i _ _ c.get.ensures.row (item_row_at g.S.Ref.Item.meaning c.args.items.now c.loop-i.i c.index-items-i.result (search rules) c.index-items-i.is) (search rules) c.loop-i.invariant
