use Rattle.columnar_base.specs.TupleLaws.{pair_parts, pair_within}
use Rattle.columnar_cells.specs.RowAtLaws.{pair_row}
use Rattle.columnar_cells.specs.WroteLaws.{pair_wrote, row_kept}
use Rattle.columnar_cells.proofs.tuple.Tuple2SetItemField0.set_item.Goals as goal

pub set_row-requires-clause-sound : goal.set_row-requires-clause-sound
set_row-requires-clause-sound g c = (pair_parts g.A.Column.format g.B.Column.format c.requires.sound).left

pub set_row-requires-clause-in_range : goal.set_row-requires-clause-in_range
set_row-requires-clause-in_range g c = (pair_within g.A.Column.format g.B.Column.format c.args.index c.requires.sound c.requires.in_range).0

pub set_row-requires-clause-fits : goal.set_row-requires-clause-fits
set_row-requires-clause-fits g c = rw (pair_row g.A.Column.format g.B.Column.format c.args.index c.requires.sound c.requires.in_range) at c.requires.fits

pub returns : goal.returns
returns g c = rw (pair_row g.A.Column.format g.B.Column.format c.args.index c.requires.sound c.requires.in_range) (pair_wrote g.A.Column.format g.B.Column.format c.args.index _ _ c.requires.sound c.set_row.ensures (row_kept g.B.Column.format c.args.index (pair_parts g.A.Column.format g.B.Column.format c.requires.sound).right (pair_within g.A.Column.format g.B.Column.format c.args.index c.requires.sound c.requires.in_range).1))
