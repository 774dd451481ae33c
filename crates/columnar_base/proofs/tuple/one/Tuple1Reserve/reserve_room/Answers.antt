use Rattle.columnar_base.specs.SoloLaws.{solo_part, solo_stayed}
use Rattle.columnar_base.proofs.tuple.one.Tuple1Reserve.reserve_room.Goals as goal

pub reserve_room-requires : goal.reserve_room-requires
reserve_room-requires g c = solo_part g.A.Column.format c.requires

pub returns-clause-stayed : goal.returns-clause-stayed
returns-clause-stayed g c = solo_stayed g.A.Column.format c.reserve_room.ensures.stayed
