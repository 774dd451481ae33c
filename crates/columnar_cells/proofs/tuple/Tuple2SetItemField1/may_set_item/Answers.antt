use Rattle.columnar_base.specs.TupleLaws.{pair_parts, pair_within}
use Rattle.columnar_cells.specs.RowAtLaws.{pair_row}
use Rattle.columnar_cells.proofs.tuple.Tuple2SetItemField1.may_set_item.Goals as goal

pub may_set-requires-clause-sound : goal.may_set-requires-clause-sound
may_set-requires-clause-sound g c = (pair_parts g.A.Column.format g.B.Column.format c.requires.sound).right

pub may_set-requires-clause-in_range : goal.may_set-requires-clause-in_range
may_set-requires-clause-in_range g c = (pair_within g.A.Column.format g.B.Column.format c.args.index c.requires.sound c.requires.in_range).1

pub returns : goal.returns
returns g c = rw (pair_row g.A.Column.format g.B.Column.format c.args.index c.requires.sound c.requires.in_range) c.may_set.ensures
