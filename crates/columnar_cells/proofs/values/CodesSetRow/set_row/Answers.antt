use Rattle.columnar_cells.specs.WroteLaws.{mapped_wrote}
use Rattle.columnar_cells.proofs.values.CodesSetRow.set_row.Goals as goal

pub returns : goal.returns
returns g c = rw (← c.code.ensures.row) (mapped_wrote g.CV.Column.format g.T.Coded.row_of g.T.Rule.is_code c.args.index _ c.requires.sound c.code.ensures.fits c.set_row.ensures)
