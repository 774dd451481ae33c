use Rattle.std.proofs.Common.{◌+◌, ◌∙◌, ap, length, length-append, arith}
use Rattle.columnar_core.specs.ChangeLaws.{undone}
use Rattle.columnar_bits.specs.BoolLaws.{bools_lawful, bools_parts, bools_grew, grew_to}
use Rattle.columnar_sums.specs.UnaryBitLaws.{falses_more, length-zeros}
use Rattle.std.specs.Prelude.{Err}
use Rattle.columnar_sums.specs.Unary.{all_false}
use Rattle.columnar_bits.specs.BoolColumns.{owned_bits}
use Rattle.columnar_sums.specs.UnaryRoomLaws.{wanted_few}
use Rattle.columnar_sums.proofs.unaries.grow.push_falses.Goals as goal

pub returns-in-Err-clause-err : goal.returns-in-Err-clause-err
returns-in-Err-clause-err c =
    let i = c.loop-done.invariant in
    let h = bools_grew (record { sound = bools_parts i.sound; bits = i.bits }) in
    undone bools_lawful c.requires.sound (grew_to c.in-Err.ensures.err h) (rw c.len-start.ensures at c.truncate.ensures.cut)

pub loop-done-preserved : goal.loop-done-preserved
loop-done-preserved c =
    let i = c.loop-done.invariant in
    record {
      bits = falses_more _ _ _ c.loop-done.done c.min-some.result i.bits c.in-Ok.ensures.ok;
      sound = c.in-Ok.ensures.sound;
      within = omega arith;
      capacity = omega (arith, i.capacity, c.push_bits.ensures.capacity);
    }

pub returns-in-Err-clause-wanted : goal.returns-in-Err-clause-wanted
returns-in-Err-clause-wanted c = λ l.
    let i = c.loop-done.invariant in
    let z = length-zeros c.loop-done.done in
    let n = ap length i.bits ∙ length-append (owned_bits c.args.values.now) (all_false c.loop-done.done) in
    let w = wanted_few (length (owned_bits c.loop-done.values) + c.min-some.result) _ c.in-Err.ensures.kinds (λ e. c.in-Err.ensures.length (ap Err e)) (λ e. c.in-Err.ensures.wanted (ap Err e)) (omega (arith, n, z, l, i.within)) in
    omega (arith, n, z, w, i.capacity, i.within)

pub returns-in-Err-clause-capacity : goal.returns-in-Err-clause-capacity
returns-in-Err-clause-capacity c = omega (arith, c.loop-done.invariant.capacity, c.push_bits.ensures.capacity, c.truncate.ensures.capacity)
