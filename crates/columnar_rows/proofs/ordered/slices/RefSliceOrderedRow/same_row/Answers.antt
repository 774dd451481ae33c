use Rattle.std.proofs.Common.{map, sym, ◌∙◌}
use Rattle.columnar_rows.specs.RowOrderLaws.{list_same}
use Rattle.columnar_rows.proofs.ordered.slices.RefSliceOrderedRow.same_row.Goals as goal

pub returns : goal.returns
returns g c = c.same_items.ensures ∙ sym (list_same (map g.T.Item.meaning c.args.self.now.now) (map g.T.Item.meaning c.args.other.now.now))
