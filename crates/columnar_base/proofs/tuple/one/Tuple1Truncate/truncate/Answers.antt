use Rattle.std.proofs.Common.{arith}
use Rattle.columnar_base.specs.SoloLaws.{solo_part, solo_length, solo_cut}
use Rattle.columnar_base.specs.RoomLaws.{solo_frees}
use Rattle.columnar_base.proofs.tuple.one.Tuple1Truncate.truncate.Goals as goal

pub truncate-requires : goal.truncate-requires
truncate-requires g c = record { sound = solo_part g.A.Column.format c.requires.sound; in_range = omega (arith, solo_length g.A.Column.format (g.A.Column.content c.args.self.now.0), c.requires.in_range) }

pub returns-clause-cut : goal.returns-clause-cut
returns-clause-cut g c = solo_cut g.A.Column.format c.args.n c.truncate.ensures.cut

pub returns-clause-freed : goal.returns-clause-freed
returns-clause-freed g c = solo_frees g.A.Column.format c.args.n c.truncate.ensures.freed
