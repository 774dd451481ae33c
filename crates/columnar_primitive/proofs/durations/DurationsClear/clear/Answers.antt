use Rattle.columnar_base.specs.RoomLaws.{both_free, counted_frees}
use Rattle.columnar_primitive.specs.Durations.{durations_format}
use Rattle.columnar_primitive.specs.DurationLaws.{durations_parts}
use Rattle.columnar_primitive.specs.MappedRoomLaws.{length-seconds, length-nanoseconds}
use Rattle.columnar_primitive.proofs.durations.DurationsClear.clear.Goals as goal

pub returns-clause-freed : goal.returns-clause-freed
returns-clause-freed g c = both_free (counted_frees (durations_format g.SC.Column.format g.NC.Column.format) g.SC.Column.format 0 (λ s. ((durations_parts g.SC.Column.format g.NC.Column.format s).left, length-seconds g.SC.Column.format g.NC.Column.format s)) (g.met.SC.CountedRoom.counted_room c.clear.new.self) c.clear.ensures.freed) (counted_frees (durations_format g.SC.Column.format g.NC.Column.format) g.NC.Column.format 0 (λ s. ((durations_parts g.SC.Column.format g.NC.Column.format s).right, length-nanoseconds g.SC.Column.format g.NC.Column.format s)) (g.met.NC.CountedRoom.counted_room c.clear-2.new.self) c.clear-2.ensures.freed)
