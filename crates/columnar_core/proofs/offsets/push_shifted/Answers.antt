use Rattle.std.proofs.Common.{◌≡◌, ◌+◌, ◌-◌, arith, refl}
use Rattle.columnar_base.specs.Row.{number}
use Rattle.columnar_base.specs.ChangeLaws.{took_none, took_more, refused_more, undone, grew_stayed}
use Rattle.columnar_base.specs.RoomLaws.{leaves_none, leaves_next, full_next}
use Rattle.columnar_core.specs.Bounds.{numbers, shifted}
use Rattle.columnar_core.specs.BoundLaws.{word_is, number_get, number_after, shifted_get}
use Rattle.columnar_core.proofs.offsets.push_shifted.Goals as goal

pub loop-i-init : goal.loop-i-init
loop-i-init g c =
    let e : c.args.range.start - c.args.range.start ≡ 0 = omega arith in
    record { took = rw e (took_none c.requires.sound); left = rw e leaves_none; turns = omega arith; last = c.requires.lower }

pub overflow_sub-last : goal.overflow_sub-last
overflow_sub-last g c = (c.requires.held c.loop-i.i c.offset_after-last.result c.loop-i.auto.i c.loop-i-test.true (number_get (g.W.Column.format.rows (g.W.Column.content c.args.view.now)) c.loop-i.i c.offset_after-last.result c.offset_after-last.ensures)).0

pub overflow_add-start : goal.overflow_add-start
overflow_add-start g c =
    let h = c.requires.held c.loop-i.i c.offset_after-last.result c.loop-i.auto.i c.loop-i-test.true (number_get (g.W.Column.format.rows (g.W.Column.content c.args.view.now)) c.loop-i.i c.offset_after-last.result c.offset_after-last.ensures) in
    omega (arith, h.1)

pub returns-in-Err-clause-err : goal.returns-in-Err-clause-err
returns-in-Err-clause-err g c =
    let rs = g.W.Column.format.rows (g.W.Column.content c.args.view.now) in
    let h = c.requires.held c.loop-i.i c.offset_after-last.result c.loop-i.auto.i c.loop-i-test.true (number_get rs c.loop-i.i c.offset_after-last.result c.offset_after-last.ensures) in
    let m = word_is (c.args.start + (c.offset_after-last.result - c.args.lower)) h.1 in
    refused_more (shifted c.args.lower c.args.start (numbers rs)) c.args.range.start c.loop-i.i c.args.range.«end» (number (c.args.start + (c.offset_after-last.result - c.args.lower))) g.met.BC.Truncate.lawful c.loop-i.auto.i c.loop-i-test.true (shifted_get c.args.lower c.args.start rs c.loop-i.i c.offset_after-last.result c.offset_after-last.ensures) c.loop-i.invariant.took (rw m at c.in-Err.ensures.err.cause)
    (undone {mid = g.BC.Column.content c.push.new.self} g.met.BC.Truncate.lawful c.requires.sound (grew_stayed {z = g.BC.Column.content c.push.new.self} c.loop-i.invariant.took.grew c.in-Err.ensures.err.stayed) (rw c.len-before.ensures at c.truncate.ensures.cut))

pub loop-i-preserved : goal.loop-i-preserved
loop-i-preserved g c =
    let rs = g.W.Column.format.rows (g.W.Column.content c.args.view.now) in
    let h = c.requires.held c.loop-i.i c.offset_after-last.result c.loop-i.auto.i c.loop-i-test.true (number_get rs c.loop-i.i c.offset_after-last.result c.offset_after-last.ensures) in
    let m = word_is (c.args.start + (c.offset_after-last.result - c.args.lower)) h.1 in
    record {
      took = took_more (shifted c.args.lower c.args.start (numbers rs)) c.args.range.start c.loop-i.i (number (c.args.start + (c.offset_after-last.result - c.args.lower))) c.loop-i.auto.i (shifted_get c.args.lower c.args.start rs c.loop-i.i c.offset_after-last.result c.offset_after-last.ensures) c.loop-i.invariant.took (rw m at c.in-Ok.ensures.ok);
      left = leaves_next (shifted c.args.lower c.args.start (numbers rs)) c.args.range.start c.loop-i.i (number (c.args.start + (c.offset_after-last.result - c.args.lower))) c.loop-i.auto.i (shifted_get c.args.lower c.args.start rs c.loop-i.i c.offset_after-last.result c.offset_after-last.ensures) c.loop-i.invariant.left (rw m at c.in-Ok.ensures.left);
      turns = omega (arith, c.tick.ensures.turns, c.loop-i.invariant.turns, c.loop-i.auto.i);
      last = number_after rs c.loop-i.i c.offset_after-last.result c.offset_after-last.ensures;
    }

pub returns-clause-ok : goal.returns-clause-ok
returns-clause-ok g c =
    let e : c.loop-i.i ≡ c.args.range.«end» = omega (arith, c.requires.ordered, c.loop-i.auto.i-end c.requires.ordered) in
    rw e at c.loop-i.invariant.took

pub returns-clause-left : goal.returns-clause-left
returns-clause-left g c =
    let e : c.loop-i.i ≡ c.args.range.«end» = omega (arith, c.requires.ordered, c.loop-i.auto.i-end c.requires.ordered) in
    rw e at c.loop-i.invariant.left

pub returns-in-Err-clause-wanted : goal.returns-in-Err-clause-wanted
returns-in-Err-clause-wanted g c =
    let rs = g.W.Column.format.rows (g.W.Column.content c.args.view.now) in
    let h = c.requires.held c.loop-i.i c.offset_after-last.result c.loop-i.auto.i c.loop-i-test.true (number_get rs c.loop-i.i c.offset_after-last.result c.offset_after-last.ensures) in
    let m = word_is (c.args.start + (c.offset_after-last.result - c.args.lower)) h.1 in
    full_next (shifted c.args.lower c.args.start (numbers rs)) c.args.range.start c.loop-i.i c.args.range.«end» (number (c.args.start + (c.offset_after-last.result - c.args.lower))) c.loop-i.auto.i c.loop-i-test.true (shifted_get c.args.lower c.args.start rs c.loop-i.i c.offset_after-last.result c.offset_after-last.ensures) c.loop-i.invariant.left (rw m at (c.in-Err.ensures.wanted tt))
