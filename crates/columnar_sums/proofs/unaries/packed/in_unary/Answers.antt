use Rattle.std.proofs.Common.{◌≡◌, ◌+◌, ◌^◌, ◌≤◌, List, [], sym, arith}
use Rattle.columnar_core.specs.Bounds.{numbers}
use Rattle.columnar_core.specs.Elements.{words_format}
use Rattle.columnar_core.specs.Format.{slice}
use Rattle.columnar_core.specs.Row.{Row}
use Rattle.columnar_core.specs.WordViews.{le_bytes}
use Rattle.columnar_bits.specs.BoolColumns.{owned_bits}
use Rattle.columnar_sums.specs.PackedLaws.{not_both, no_fall, fall_there, fallen_new, too_long_new, no_bits}
use Rattle.columnar_sums.proofs.unaries.packed.in_unary.Goals as goal

pub returns-then-not-rises_to-clause-err : goal.returns-then-not-rises_to-clause-err
returns-then-not-rises_to-clause-err c =
    let rs : List Row = words_format.rows (slice (le_bytes c.args.offsets.now.items)) in
    fallen_new rs (fall_there 0 (numbers rs) (rw c.last_of-last.ensures at (sym c.if-not-rises_to.ensures)))

pub returns-in-None-clause-err : goal.returns-in-None-clause-err
returns-in-None-clause-err c =
    let rs : List Row = words_format.rows (slice (le_bytes c.args.offsets.now.items)) in
    let long : 2 ^ 64 ≤ c.last_of-last.result + c.len.result = omega (arith, c.in-None.ensures) in
    too_long_new rs (rw (c.last_of-last.ensures, c.len.ensures) at long)

pub returns-clause-bits : goal.returns-clause-bits
returns-clause-bits c =
    let none : owned_bits c.empty-bits.result ≡ [] = no_bits (owned_bits c.empty-bits.result) c.empty-bits.ensures.rows in
    rw (c.in_ok-reserve.ensures.items, none) at c.in_ok-push_runs.ensures.ok

pub returns-clause-rise : goal.returns-clause-rise
returns-clause-rise c =
    let rs : List Row = words_format.rows (slice (le_bytes c.args.offsets.now.items)) in
    no_fall 0 (numbers rs) (rw c.last_of-last.ensures at (sym c.if-not-rises_to.ensures))

pub returns-then-not-rises_to-clause-length : goal.returns-then-not-rises_to-clause-length
returns-then-not-rises_to-clause-length c =
    let rs : List Row = words_format.rows (slice (le_bytes c.args.offsets.now.items)) in
    λ h l. absurd (not_both 0 (numbers rs) (fall_there 0 (numbers rs) (rw c.last_of-last.ensures at (sym c.if-not-rises_to.ensures))) h)

pub returns-in-None-clause-offset : goal.returns-in-None-clause-offset
returns-in-None-clause-offset c =
    let rs : List Row = words_format.rows (slice (le_bytes c.args.offsets.now.items)) in
    λ h. absurd (not_both 0 (numbers rs) h (no_fall 0 (numbers rs) (rw c.last_of-last.ensures at (sym c.if-not-rises_to.ensures))))

pub returns-in_err-reserve-clause-offset : goal.returns-in_err-reserve-clause-offset
returns-in_err-reserve-clause-offset c =
    let rs : List Row = words_format.rows (slice (le_bytes c.args.offsets.now.items)) in
    λ h. absurd (not_both 0 (numbers rs) h (no_fall 0 (numbers rs) (rw c.last_of-last.ensures at (sym c.if-not-rises_to.ensures))))

pub returns-in_err-push_runs-clause-offset : goal.returns-in_err-push_runs-clause-offset
returns-in_err-push_runs-clause-offset c =
    let rs : List Row = words_format.rows (slice (le_bytes c.args.offsets.now.items)) in
    λ h. absurd (not_both 0 (numbers rs) h (no_fall 0 (numbers rs) (rw c.last_of-last.ensures at (sym c.if-not-rises_to.ensures))))

pub returns-clause-offset : goal.returns-clause-offset
returns-clause-offset c =
    let rs : List Row = words_format.rows (slice (le_bytes c.args.offsets.now.items)) in
    λ h. absurd (not_both 0 (numbers rs) h (no_fall 0 (numbers rs) (rw c.last_of-last.ensures at (sym c.if-not-rises_to.ensures))))
