use Rattle.std.proofs.Common.{map, sym, ◌∙◌}
use Rattle.columnar_rows.specs.RowOrderLaws.{list_cmp}
use Rattle.columnar_rows.proofs.ordered.slices.ArrayOrderedRow.compare_row.Goals as goal

pub returns : goal.returns
returns g c =
    rw (g.met.T.ArrayItem.is_list g.row.N c.args.self.now c.type_inv.self, g.met.T.ArrayItem.is_list g.row.N c.args.other.now c.type_inv.other) (
    rw (c.as_slice.ensures, c.as_slice-2.ensures) at c.compare_items.ensures ∙ sym (list_cmp (map g.T.Item.meaning c.args.self.now) (map g.T.Item.meaning c.args.other.now))
    )
