use Rattle.columnar_cells.specs.WroteLaws.{solo_wrote}
use Rattle.columnar_cells.proofs.tuple.Tuple1SetRow.set_row.Goals as goal

pub returns : goal.returns
returns g c = solo_wrote g.A.Column.format c.set_row.ensures
