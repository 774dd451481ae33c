use Rattle.columnar_base.specs.RoomLaws.{solo_adds_room}
use Rattle.columnar_core.proofs.tuple.one.Tuple1ExtendFrom.add_room.Goals as goal

pub returns : goal.returns
returns g c = solo_adds_room g.P.Column.format c.add_room.ensures
