use Rattle.columnar_base.specs.RoomLaws.{both_add, counted_adds}
use Rattle.columnar_primitive.specs.Durations.{durations_format}
use Rattle.columnar_primitive.specs.DurationLaws.{durations_parts}
use Rattle.columnar_primitive.specs.MappedRoomLaws.{length-seconds, length-nanoseconds}
use Rattle.columnar_primitive.proofs.durations.DurationsExtendFrom.add_room.Goals as goal

pub returns : goal.returns
returns g c = both_add (counted_adds (durations_format g.V.Column.format g.W.Column.format) g.V.Column.format (λ s. ((durations_parts g.V.Column.format g.W.Column.format s).left, length-seconds g.V.Column.format g.W.Column.format s)) (g.met.SC.ReserveCounted.counted_covers c.add_room.result) c.add_room.ensures) (counted_adds (durations_format g.V.Column.format g.W.Column.format) g.W.Column.format (λ s. ((durations_parts g.V.Column.format g.W.Column.format s).right, length-nanoseconds g.V.Column.format g.W.Column.format s)) (g.met.NC.ReserveCounted.counted_covers c.add_room-2.result) c.add_room-2.ensures)
