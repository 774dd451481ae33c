use Rattle.std.proofs.Common.{◌≡◌, ◌%◌, ◌^◌, arith}
use Rattle.columnar_primitive.specs.DurationLaws.{durations_parts, durations_took, durations_refused_left, durations_refused_right}
use Rattle.columnar_base.specs.ChangeLaws.{passed_on, unchanged, undone}
use Rattle.std.proofs.lemmas.Bool.{lt-ltb}
use Rattle.columnar_base.specs.Row.{number}
use Rattle.std.proofs.Common.{refl}
use Rattle.columnar_base.specs.RoomLaws.{both_leave, full_left, full_right, counted_leaves, counted_full}
use Rattle.columnar_primitive.proofs.durations.Durations.push_parts.Goals as goal

pub len-before-requires : goal.len-before-requires
len-before-requires g c = (durations_parts g.SC.Column.format g.NC.Column.format c.requires.sound).left

pub push-requires-clause-sound : goal.push-requires-clause-sound
push-requires-clause-sound g c = (durations_parts g.SC.Column.format g.NC.Column.format c.requires.sound).left

pub push-requires-2-clause-sound : goal.push-requires-2-clause-sound
push-requires-2-clause-sound g c = (durations_parts g.SC.Column.format g.NC.Column.format c.requires.sound).right

pub returns-in_err-push-clause-err : goal.returns-in_err-push-clause-err
returns-in_err-push-clause-err g c =
    let e : c.args.seconds % 2 ^ 64 ≡ c.args.seconds = omega (arith, c.ranges.seconds) in
    let f : c.args.nanoseconds % 2 ^ 32 ≡ c.args.nanoseconds = omega (arith, c.ranges.nanoseconds) in
    rw (passed_on c.from_residual.result c.from_residual.ensures.1) (rw (e, f) at (durations_refused_left g.SC.Column.format g.NC.Column.format (number (c.args.seconds % 2 ^ 64)) (number (c.args.nanoseconds % 2 ^ 32)) g.met.SC.Flat.flat g.met.NC.Flat.flat c.requires.sound c.in_err-push.ensures.err (unchanged (durations_parts g.SC.Column.format g.NC.Column.format c.requires.sound).right)))

pub returns-in-Ok-clause-ok : goal.returns-in-Ok-clause-ok
returns-in-Ok-clause-ok g c =
    let e : c.args.seconds % 2 ^ 64 ≡ c.args.seconds = omega (arith, c.ranges.seconds) in
    let f : c.args.nanoseconds % 2 ^ 32 ≡ c.args.nanoseconds = omega (arith, c.ranges.nanoseconds) in
    rw (e, f) at (durations_took g.SC.Column.format g.NC.Column.format (number (c.args.seconds % 2 ^ 64)) (number (c.args.nanoseconds % 2 ^ 32)) g.met.SC.Flat.flat g.met.NC.Flat.flat c.requires.sound (lt-ltb (c.args.nanoseconds % 2 ^ 32) 1000000000 (omega (arith, c.requires.short, c.ranges.nanoseconds))) c.in_ok-push.ensures.ok c.in-Ok.ensures.ok)

pub returns-in-Err-clause-err : goal.returns-in-Err-clause-err
returns-in-Err-clause-err g c =
    let e : c.args.seconds % 2 ^ 64 ≡ c.args.seconds = omega (arith, c.ranges.seconds) in
    let f : c.args.nanoseconds % 2 ^ 32 ≡ c.args.nanoseconds = omega (arith, c.ranges.nanoseconds) in
    rw (e, f) at (durations_refused_right g.SC.Column.format g.NC.Column.format (number (c.args.seconds % 2 ^ 64)) (number (c.args.nanoseconds % 2 ^ 32)) g.met.SC.Flat.flat g.met.NC.Flat.flat c.requires.sound (undone g.met.SC.Truncate.lawful (durations_parts g.SC.Column.format g.NC.Column.format c.requires.sound).left c.in_ok-push.ensures.ok.grew (rw c.len-before.ensures at c.truncate.ensures.cut)) c.in-Err.ensures.err)

pub returns-in_err-push-clause-wanted : goal.returns-in_err-push-clause-wanted
returns-in_err-push-clause-wanted g c = rw (passed_on c.from_residual.result c.from_residual.ensures.1) (full_left (g.NC.Column.room c.args.self.now.nanoseconds) (counted_full _ _ refl (g.met.SC.CountedRoom.counted_room c.args.self.now.seconds) (c.in_err-push.ensures.wanted tt)))

pub returns-in-Ok-clause-left : goal.returns-in-Ok-clause-left
returns-in-Ok-clause-left g c = both_leave (counted_leaves _ _ refl (g.met.SC.CountedRoom.counted_room c.args.self.now.seconds) c.in_ok-push.ensures.left) (counted_leaves _ _ refl (g.met.NC.CountedRoom.counted_room c.args.self.now.nanoseconds) c.in-Ok.ensures.left)

pub returns-in-Err-clause-wanted : goal.returns-in-Err-clause-wanted
returns-in-Err-clause-wanted g c = full_right (g.SC.Column.room c.args.self.now.seconds) (counted_full _ _ refl (g.met.NC.CountedRoom.counted_room c.args.self.now.nanoseconds) (c.in-Err.ensures.wanted tt))
