use Rattle.columnar_base.specs.ChangeLaws.{unchanged}
use Rattle.columnar_base.specs.RoomLaws.{both_covered, on_ok_as}
use Rattle.columnar_base.specs.TupleLaws.{pair_parts, pair_stayed}
use Rattle.columnar_base.proofs.tuple.Tuple2Reserve.reserve_room.Goals as goal

pub reserve_room-requires : goal.reserve_room-requires
reserve_room-requires g c = (pair_parts g.A.Column.format g.B.Column.format c.requires).left

pub reserve_room-requires-2 : goal.reserve_room-requires-2
reserve_room-requires-2 g c = (pair_parts g.A.Column.format g.B.Column.format c.requires).right

pub returns-in_err-reserve_room-clause-stayed : goal.returns-in_err-reserve_room-clause-stayed
returns-in_err-reserve_room-clause-stayed g c = pair_stayed g.A.Column.format g.B.Column.format c.requires c.reserve_room.ensures.stayed (unchanged (pair_parts g.A.Column.format g.B.Column.format c.requires).right)

pub returns-clause-stayed : goal.returns-clause-stayed
returns-clause-stayed g c = pair_stayed g.A.Column.format g.B.Column.format c.requires c.reserve_room.ensures.stayed c.reserve_room-2.ensures.stayed

pub returns-clause-room : goal.returns-clause-room
returns-clause-room g c = both_covered _ _ _ _ _ _ c.reserve_room-2.result (on_ok_as _ c.reserve_room-2.result c.in_ok-reserve_room.ensures.room) c.reserve_room-2.ensures.room
