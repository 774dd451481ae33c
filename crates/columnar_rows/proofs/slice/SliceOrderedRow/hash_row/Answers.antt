use Rattle.std.proofs.Common.{◌∙◌, sym, ap}
use Rattle.std.specs.Prelude.{fold}
use Rattle.std.specs.Hash as fed
use Rattle.columnar_base.specs.Format.{part, part_rows}
use Rattle.columnar_base.specs.RowLaws.{items_of-list}
use Rattle.columnar_rows.proofs.slice.SliceOrderedRow.hash_row.Goals as goal

pub returns : goal.returns
returns g c = c.hash.ensures ∙ ap (λ rs. fold g.H.Hasher.write c.args.state.now (fed.slice g.S.Ref.OrderedRow.row_input rs)) (sym (items_of-list (part_rows g.S.Column.format (part c.args.self.now.lower c.args.self.now.upper (g.S.Column.content c.args.self.now.slice)))))
