use Rattle.columnar_base.specs.TupleLaws.{pair_parts, pair_within}
use Rattle.columnar_cells.specs.WroteLaws.{pair_wrote}
use Rattle.columnar_cells.specs.RowAtLaws.{pair_row}
use Rattle.columnar_cells.proofs.tuple.Tuple2SetRow.set_row.Goals as goal

pub set_row-requires-clause-sound : goal.set_row-requires-clause-sound
set_row-requires-clause-sound g c = (pair_parts g.A.Column.format g.B.Column.format c.requires.sound).left

pub set_row-requires-clause-in_range : goal.set_row-requires-clause-in_range
set_row-requires-clause-in_range g c = (pair_within g.A.Column.format g.B.Column.format c.args.index c.requires.sound c.requires.in_range).0

pub set_row-requires-clause-fits : goal.set_row-requires-clause-fits
set_row-requires-clause-fits g c = let f = rw (pair_row g.A.Column.format g.B.Column.format c.args.index c.requires.sound c.requires.in_range) at c.requires.fits in f.0

pub set_row-requires-2-clause-sound : goal.set_row-requires-2-clause-sound
set_row-requires-2-clause-sound g c = (pair_parts g.A.Column.format g.B.Column.format c.requires.sound).right

pub set_row-requires-2-clause-in_range : goal.set_row-requires-2-clause-in_range
set_row-requires-2-clause-in_range g c = (pair_within g.A.Column.format g.B.Column.format c.args.index c.requires.sound c.requires.in_range).1

pub set_row-requires-2-clause-fits : goal.set_row-requires-2-clause-fits
set_row-requires-2-clause-fits g c = let f = rw (pair_row g.A.Column.format g.B.Column.format c.args.index c.requires.sound c.requires.in_range) at c.requires.fits in f.1

pub returns : goal.returns
returns g c = pair_wrote g.A.Column.format g.B.Column.format c.args.index _ _ c.requires.sound c.set_row.ensures c.set_row-2.ensures
