use Rattle.std.proofs.Common.{◌∙◌, sym}
use Rattle.columnar_base.specs.Format.{part, part_rows}
use Rattle.columnar_rows.specs.RowOrderLaws.{list_cmp}
use Rattle.columnar_rows.proofs.slice.SliceOrderedRow.compare_row.Goals as goal

pub returns : goal.returns
returns g c = c.cmp.ensures ∙ sym (list_cmp (part_rows g.S.Column.format (part c.args.self.now.lower c.args.self.now.upper (g.S.Column.content c.args.self.now.slice))) (part_rows g.S.Column.format (part c.args.other.now.lower c.args.other.now.upper (g.S.Column.content c.args.other.now.slice))))
