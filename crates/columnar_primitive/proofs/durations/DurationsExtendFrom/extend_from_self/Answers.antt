use Rattle.std.proofs.Common.{◌-◌}
use Rattle.columnar_primitive.specs.DurationLaws.{durations_parts, durations_top, durations_copied, durations_refused_left_piece, durations_refused_right_piece}
use Rattle.columnar_base.specs.ChangeLaws.{passed_on, unchanged, undone}
use Rattle.columnar_base.specs.RoomLaws.{both_leave, full_left, full_right, counted_leaves, counted_full}
use Rattle.columnar_primitive.specs.MappedRoomLaws.{same_range, length-seconds, length-nanoseconds}
use Rattle.columnar_primitive.proofs.durations.DurationsExtendFrom.extend_from_self.Goals as goal

pub len-rows-requires : goal.len-rows-requires
len-rows-requires g c = (durations_parts g.SC.Column.format g.NC.Column.format c.requires.sound).left

pub extend_from_self-requires : goal.extend_from_self-requires
extend_from_self-requires g c = record { sound = (durations_parts g.SC.Column.format g.NC.Column.format c.requires.sound).left; view_sound = (durations_parts g.V.Column.format g.W.Column.format c.requires.view_sound).left; in_range = (durations_top g.V.Column.format g.W.Column.format c.args.range.«end» c.requires.view_sound c.requires.in_range).0; ordered = c.requires.ordered }

pub returns-in_err-extend_from_self-clause-err : goal.returns-in_err-extend_from_self-clause-err
returns-in_err-extend_from_self-clause-err g c = rw (passed_on c.from_residual.result c.from_residual.ensures.1) (durations_refused_left_piece g.SC.Column.format g.NC.Column.format g.V.Column.format g.W.Column.format (g.V.Column.content c.args.view.seconds) (g.W.Column.content c.args.view.nanoseconds) c.args.range.start (c.args.range.«end» - c.args.range.start) g.met.SC.Flat.flat g.met.NC.Flat.flat c.requires.sound c.requires.view_sound c.in_err-extend_from_self.ensures.err (unchanged (durations_parts g.SC.Column.format g.NC.Column.format c.requires.sound).right))

pub extend_from_self-requires-2 : goal.extend_from_self-requires-2
extend_from_self-requires-2 g c = record { sound = (durations_parts g.SC.Column.format g.NC.Column.format c.requires.sound).right; view_sound = (durations_parts g.V.Column.format g.W.Column.format c.requires.view_sound).right; in_range = (durations_top g.V.Column.format g.W.Column.format c.args.range.«end» c.requires.view_sound c.requires.in_range).1; ordered = c.requires.ordered }

pub returns-in-Ok-clause-ok : goal.returns-in-Ok-clause-ok
returns-in-Ok-clause-ok g c = durations_copied g.SC.Column.format g.NC.Column.format g.V.Column.format g.W.Column.format (g.V.Column.content c.args.view.seconds) (g.W.Column.content c.args.view.nanoseconds) c.args.range.start (c.args.range.«end» - c.args.range.start) g.met.SC.Flat.flat g.met.NC.Flat.flat c.requires.sound c.requires.view_sound c.in_ok-extend_from_self.ensures.ok c.in-Ok.ensures.ok

pub returns-in-Err-clause-err : goal.returns-in-Err-clause-err
returns-in-Err-clause-err g c = durations_refused_right_piece g.SC.Column.format g.NC.Column.format g.V.Column.format g.W.Column.format (g.V.Column.content c.args.view.seconds) (g.W.Column.content c.args.view.nanoseconds) c.args.range.start (c.args.range.«end» - c.args.range.start) g.met.SC.Flat.flat g.met.NC.Flat.flat c.requires.sound c.requires.view_sound (undone g.met.SC.Truncate.lawful (durations_parts g.SC.Column.format g.NC.Column.format c.requires.sound).left c.in_ok-extend_from_self.ensures.ok.took.grew (rw c.len-rows.ensures at c.truncate.ensures.cut)) c.in-Err.ensures.err

pub returns-in_err-extend_from_self-clause-wanted : goal.returns-in_err-extend_from_self-clause-wanted
returns-in_err-extend_from_self-clause-wanted g c = rw (passed_on c.from_residual.result c.from_residual.ensures.1) (full_left (g.NC.Column.room c.args.self.now.nanoseconds) (counted_full _ _ (same_range c.args.range.start (c.args.range.«end» - c.args.range.start) _ _ (length-seconds g.V.Column.format g.W.Column.format c.requires.view_sound)) (g.met.SC.CountedRoom.counted_room c.args.self.now.seconds) c.in_err-extend_from_self.ensures.wanted))

pub returns-in-Ok-clause-left : goal.returns-in-Ok-clause-left
returns-in-Ok-clause-left g c = both_leave (counted_leaves _ _ (same_range c.args.range.start (c.args.range.«end» - c.args.range.start) _ _ (length-seconds g.V.Column.format g.W.Column.format c.requires.view_sound)) (g.met.SC.CountedRoom.counted_room c.args.self.now.seconds) c.in_ok-extend_from_self.ensures.left) (counted_leaves _ _ (same_range c.args.range.start (c.args.range.«end» - c.args.range.start) _ _ (length-nanoseconds g.V.Column.format g.W.Column.format c.requires.view_sound)) (g.met.NC.CountedRoom.counted_room c.args.self.now.nanoseconds) c.in-Ok.ensures.left)

pub returns-in-Err-clause-wanted : goal.returns-in-Err-clause-wanted
returns-in-Err-clause-wanted g c = full_right (g.SC.Column.room c.args.self.now.seconds) (counted_full _ _ (same_range c.args.range.start (c.args.range.«end» - c.args.range.start) _ _ (length-nanoseconds g.V.Column.format g.W.Column.format c.requires.view_sound)) (g.met.NC.CountedRoom.counted_room c.args.self.now.nanoseconds) c.in-Err.ensures.wanted)
