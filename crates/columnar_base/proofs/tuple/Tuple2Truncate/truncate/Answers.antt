use Rattle.columnar_base.specs.TupleLaws.{pair_parts, pair_top, pair_cut}
use Rattle.columnar_base.specs.RoomLaws.{pair_frees}
use Rattle.columnar_base.proofs.tuple.Tuple2Truncate.truncate.Goals as goal

pub truncate-requires : goal.truncate-requires
truncate-requires g c = record { sound = (pair_parts g.A.Column.format g.B.Column.format c.requires.sound).left; in_range = (pair_top g.A.Column.format g.B.Column.format c.args.n c.requires.sound c.requires.in_range).0 }

pub truncate-requires-2 : goal.truncate-requires-2
truncate-requires-2 g c = record { sound = (pair_parts g.A.Column.format g.B.Column.format c.requires.sound).right; in_range = (pair_top g.A.Column.format g.B.Column.format c.args.n c.requires.sound c.requires.in_range).1 }

pub returns-clause-cut : goal.returns-clause-cut
returns-clause-cut g c = pair_cut g.A.Column.format g.B.Column.format c.requires.sound c.truncate.ensures.cut c.truncate-2.ensures.cut

pub returns-clause-freed : goal.returns-clause-freed
returns-clause-freed g c = pair_frees g.A.Column.format g.B.Column.format c.args.n c.truncate.ensures.freed c.truncate-2.ensures.freed
