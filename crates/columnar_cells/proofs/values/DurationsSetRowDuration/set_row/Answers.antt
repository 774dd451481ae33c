use Rattle.std.proofs.Common.{arith, ◌≡◌, ◌<◌, ◌%◌, ◌/◌, ◌^◌}
use Rattle.std.specs.Duration.{as_nanos}
use Rattle.std.proofs.lemmas.Bool.{lt-ltb}
use Rattle.columnar_base.specs.Row.{number}
use Rattle.columnar_primitive.specs.DurationLaws.{durations_parts, durations_within}
use Rattle.columnar_cells.specs.WroteLaws.{durations_wrote}
use Rattle.columnar_cells.proofs.values.DurationsSetRowDuration.set_row.Goals as goal

pub set_row-requires-clause-sound : goal.set_row-requires-clause-sound
set_row-requires-clause-sound g c = (durations_parts g.SC.Column.format g.NC.Column.format c.requires.sound).left

pub set_row-requires-clause-in_range : goal.set_row-requires-clause-in_range
set_row-requires-clause-in_range g c = (durations_within g.SC.Column.format g.NC.Column.format c.args.index c.requires.sound c.requires.in_range).0

pub set_row-requires-clause-fits : goal.set_row-requires-clause-fits
set_row-requires-clause-fits g c = g.met.SC.SetAny.any _ _

pub set_row-requires-2-clause-sound : goal.set_row-requires-2-clause-sound
set_row-requires-2-clause-sound g c = (durations_parts g.SC.Column.format g.NC.Column.format c.requires.sound).right

pub set_row-requires-2-clause-in_range : goal.set_row-requires-2-clause-in_range
set_row-requires-2-clause-in_range g c = (durations_within g.SC.Column.format g.NC.Column.format c.args.index c.requires.sound c.requires.in_range).1

pub set_row-requires-2-clause-fits : goal.set_row-requires-2-clause-fits
set_row-requires-2-clause-fits g c = g.met.NC.SetAny.any _ _

pub returns : goal.returns
returns g c =
    let s : c.as_secs.result % 2 ^ 64 ≡ as_nanos c.args.item / 1000000000 = omega (arith, c.as_secs.type_inv, c.as_secs.ensures) in
    let n : c.subsec_nanos.result % 2 ^ 32 ≡ as_nanos c.args.item % 1000000000 = omega (arith, c.subsec_nanos.type_inv, c.subsec_nanos.ensures) in
    let l : c.subsec_nanos.result % 2 ^ 32 < 1000000000 = omega (arith, n) in
    rw (s, n) at (durations_wrote g.SC.Column.format g.NC.Column.format c.args.index (number (c.as_secs.result % 2 ^ 64)) (number (c.subsec_nanos.result % 2 ^ 32)) c.requires.sound (lt-ltb (c.subsec_nanos.result % 2 ^ 32) 1000000000 l) c.set_row.ensures c.set_row-2.ensures)
