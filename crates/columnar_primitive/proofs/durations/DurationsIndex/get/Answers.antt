use Rattle.std.proofs.Common.{◌%◌, ◌^◌}
use Rattle.columnar_primitive.specs.DurationLaws.{durations_parts, durations_within, durations_get, durations_part}
use Rattle.std.proofs.lemmas.Bool.{ltb-true}
use Rattle.columnar_base.specs.Row.{number}
use Rattle.columnar_primitive.proofs.durations.DurationsIndex.get.Goals as goal

pub get-seconds-requires : goal.get-seconds-requires
get-seconds-requires g c = record { sound = (durations_parts g.SC.Column.format g.NC.Column.format c.requires.sound).left; in_range = (durations_within g.SC.Column.format g.NC.Column.format c.args.index c.requires.sound c.requires.in_range).0 }

pub get-nanoseconds-requires : goal.get-nanoseconds-requires
get-nanoseconds-requires g c = record { sound = (durations_parts g.SC.Column.format g.NC.Column.format c.requires.sound).right; in_range = (durations_within g.SC.Column.format g.NC.Column.format c.args.index c.requires.sound c.requires.in_range).1 }

pub duration_of-requires : goal.duration_of-requires
duration_of-requires g c = ltb-true (c.get-nanoseconds.result % 2 ^ 32) 1000000000 (durations_part g.SC.Column.format g.NC.Column.format c.args.index (number (c.get-seconds.result % 2 ^ 64)) (number (c.get-nanoseconds.result % 2 ^ 32)) c.requires.sound c.get-seconds.ensures.row c.get-nanoseconds.ensures.row)

pub returns-clause-row : goal.returns-clause-row
returns-clause-row g c = rw (c.duration_of.ensures.seconds, c.duration_of.ensures.nanoseconds) (durations_get c.args.index (g.SC.Column.format.rows (g.SC.Column.content c.args.self.now.seconds)) (g.NC.Column.format.rows (g.NC.Column.content c.args.self.now.nanoseconds)) (number (c.get-seconds.result % 2 ^ 64)) (number (c.get-nanoseconds.result % 2 ^ 32)) c.get-seconds.ensures.row c.get-nanoseconds.ensures.row)
