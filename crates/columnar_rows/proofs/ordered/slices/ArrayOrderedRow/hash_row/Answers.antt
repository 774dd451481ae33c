use Rattle.std.proofs.Common.{map, sym, ◌∙◌, ap}
use Rattle.std.specs.Prelude.{fold}
use Rattle.std.specs.Hash as fed
use Rattle.columnar_base.specs.RowLaws.{items_of-list}
use Rattle.columnar_rows.proofs.ordered.slices.ArrayOrderedRow.hash_row.Goals as goal

pub returns : goal.returns
returns g c =
    rw (g.met.T.ArrayItem.is_list g.row.N c.args.self.now c.type_inv.self) (
    rw c.as_slice.ensures at c.hash_items.ensures ∙ sym (ap (λ rs. fold g.H.Hasher.write c.args.state.now (fed.slice g.T.OrderedRow.row_input rs)) (items_of-list (map g.T.Item.meaning c.args.self.now)))
    )
