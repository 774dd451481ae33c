use Rattle.columnar_base.specs.RoomLaws.{pair_adds_room}
use Rattle.columnar_core.proofs.tuple.Tuple2ExtendFrom.add_room.Goals as goal

pub returns : goal.returns
returns g c = pair_adds_room g.V.Column.format g.W.Column.format c.add_room.ensures c.add_room-2.ensures
