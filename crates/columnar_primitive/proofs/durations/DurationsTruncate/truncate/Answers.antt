use Rattle.columnar_primitive.specs.DurationLaws.{durations_parts, durations_top, durations_cut}
use Rattle.columnar_base.specs.RoomLaws.{both_free, counted_frees}
use Rattle.columnar_primitive.specs.Durations.{durations_format}
use Rattle.columnar_primitive.specs.MappedRoomLaws.{length-seconds, length-nanoseconds}
use Rattle.columnar_primitive.proofs.durations.DurationsTruncate.truncate.Goals as goal

pub truncate-requires : goal.truncate-requires
truncate-requires g c = record { sound = (durations_parts g.SC.Column.format g.NC.Column.format c.requires.sound).left; in_range = (durations_top g.SC.Column.format g.NC.Column.format c.args.n c.requires.sound c.requires.in_range).0 }

pub truncate-requires-2 : goal.truncate-requires-2
truncate-requires-2 g c = record { sound = (durations_parts g.SC.Column.format g.NC.Column.format c.requires.sound).right; in_range = (durations_top g.SC.Column.format g.NC.Column.format c.args.n c.requires.sound c.requires.in_range).1 }

pub returns-clause-cut : goal.returns-clause-cut
returns-clause-cut g c = durations_cut g.SC.Column.format g.NC.Column.format c.requires.sound c.truncate.ensures.cut c.truncate-2.ensures.cut

pub returns-clause-freed : goal.returns-clause-freed
returns-clause-freed g c = both_free (counted_frees (durations_format g.SC.Column.format g.NC.Column.format) g.SC.Column.format c.args.n (λ s. ((durations_parts g.SC.Column.format g.NC.Column.format s).left, length-seconds g.SC.Column.format g.NC.Column.format s)) (g.met.SC.CountedRoom.counted_room c.truncate.new.self) c.truncate.ensures.freed) (counted_frees (durations_format g.SC.Column.format g.NC.Column.format) g.NC.Column.format c.args.n (λ s. ((durations_parts g.SC.Column.format g.NC.Column.format s).right, length-nanoseconds g.SC.Column.format g.NC.Column.format s)) (g.met.NC.CountedRoom.counted_room c.truncate-2.new.self) c.truncate-2.ensures.freed)
