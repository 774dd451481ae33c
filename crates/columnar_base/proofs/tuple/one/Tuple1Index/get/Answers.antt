use Rattle.std.proofs.Common.{arith}
use Rattle.columnar_base.specs.SoloLaws.{solo_part, solo_length, solo_row}
use Rattle.columnar_base.proofs.tuple.one.Tuple1Index.get.Goals as goal

pub get-requires : goal.get-requires
get-requires g c = record { sound = solo_part g.A.Column.format c.requires.sound; in_range = omega (arith, solo_length g.A.Column.format (g.A.Column.content c.args.self.now.0), c.requires.in_range) }

pub returns-clause-row : goal.returns-clause-row
returns-clause-row g c = solo_row c.args.index _ _ c.get.ensures.row
