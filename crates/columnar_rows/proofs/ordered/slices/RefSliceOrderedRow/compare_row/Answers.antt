use Rattle.std.proofs.Common.{map, sym, ◌∙◌}
use Rattle.columnar_rows.specs.RowOrderLaws.{list_cmp}
use Rattle.columnar_rows.proofs.ordered.slices.RefSliceOrderedRow.compare_row.Goals as goal

pub returns : goal.returns
returns g c = c.compare_items.ensures ∙ sym (list_cmp (map g.T.Item.meaning c.args.self.now.now) (map g.T.Item.meaning c.args.other.now.now))
