use Rattle.columnar_base.specs.TupleLaws.{pair_parts, pair_within}
use Rattle.columnar_cells.specs.RowAtLaws.{pair_row, both_hold}
use Rattle.columnar_cells.proofs.tuple.Tuple2SetRow.may_set.Goals as goal

pub may_set-first-requires-clause-sound : goal.may_set-first-requires-clause-sound
may_set-first-requires-clause-sound g c = (pair_parts g.A.Column.format g.B.Column.format c.requires.sound).left

pub may_set-first-requires-clause-in_range : goal.may_set-first-requires-clause-in_range
may_set-first-requires-clause-in_range g c = (pair_within g.A.Column.format g.B.Column.format c.args.index c.requires.sound c.requires.in_range).0

pub may_set-second-requires-clause-sound : goal.may_set-second-requires-clause-sound
may_set-second-requires-clause-sound g c = (pair_parts g.A.Column.format g.B.Column.format c.requires.sound).right

pub may_set-second-requires-clause-in_range : goal.may_set-second-requires-clause-in_range
may_set-second-requires-clause-in_range g c = (pair_within g.A.Column.format g.B.Column.format c.args.index c.requires.sound c.requires.in_range).1

pub returns : goal.returns
returns g c = rw (pair_row g.A.Column.format g.B.Column.format c.args.index c.requires.sound c.requires.in_range) (both_hold _ _ c.may_set-first.ensures c.may_set-second.ensures)
