use Rattle.std.proofs.Common.{◌≡◌, ◌+◌, ◌-◌, arith}
use Rattle.std.specs.Prelude.{slice_get, Some}
use Rattle.columnar_core.specs.Elements.{word_row}
use Rattle.columnar_core.specs.ChangeLaws.{took_none, took_more, refused_more, unchanged}
use Rattle.columnar_core.specs.Bounds.{numbers, shifted}
use Rattle.columnar_core.specs.BoundLaws.{number_get, number_after}
use Rattle.columnar_primitive.specs.FixedLaws.{fixed_lawful}
use Rattle.columnar_primitive.specs.StrideCopyLaws.{shifted_word}
use Rattle.columnar_primitive.proofs.offsets.fixeds.FixedsU64ExtendShifted.extend_shifted_tallied.Goals as goal

pub loop-i-init : goal.loop-i-init
loop-i-init g c =
    let e : c.args.range.start - c.args.range.start ≡ 0 = omega arith in
    record { took = rw e (took_none c.requires.sound); turns = omega arith; last = c.requires.lower }

pub overflow_sub-last : goal.overflow_sub-last
overflow_sub-last g c = (c.requires.held c.loop-i.i c.offset_after-last.result c.loop-i.auto.i c.loop-i-test.true (number_get (g.W.Column.format.rows (g.W.Column.content c.args.view.now)) c.loop-i.i c.offset_after-last.result c.offset_after-last.ensures)).0

pub overflow_add-start : goal.overflow_add-start
overflow_add-start g c =
    let h = c.requires.held c.loop-i.i c.offset_after-last.result c.loop-i.auto.i c.loop-i-test.true (number_get (g.W.Column.format.rows (g.W.Column.content c.args.view.now)) c.loop-i.i c.offset_after-last.result c.offset_after-last.ensures) in
    omega (arith, h.1)

pub returns-in-Err-clause-err : goal.returns-in-Err-clause-err
returns-in-Err-clause-err g c =
    let ws = g.W.Column.format.rows (g.W.Column.content c.args.view.now) in
    let rs = shifted c.args.lower c.args.start (numbers ws) in
    let x = c.args.start + (c.offset_after-last.result - c.args.lower) in
    let h = c.requires.held c.loop-i.i c.offset_after-last.result c.loop-i.auto.i c.loop-i-test.true (number_get ws c.loop-i.i c.offset_after-last.result c.offset_after-last.ensures) in
    let k : slice_get rs c.loop-i.i ≡ Some (word_row x) = shifted_word c.args.lower c.args.start ws c.loop-i.i c.offset_after-last.result c.offset_after-last.ensures h.1 in
    refused_more rs c.args.range.start c.loop-i.i c.args.range.«end» (word_row x) (fixed_lawful g.row.K) c.loop-i.auto.i c.loop-i-test.true k c.loop-i.invariant.took c.in-Err.ensures.err.cause (unchanged c.requires.sound)

pub loop-i-preserved : goal.loop-i-preserved
loop-i-preserved g c =
    let ws = g.W.Column.format.rows (g.W.Column.content c.args.view.now) in
    let rs = shifted c.args.lower c.args.start (numbers ws) in
    let x = c.args.start + (c.offset_after-last.result - c.args.lower) in
    let h = c.requires.held c.loop-i.i c.offset_after-last.result c.loop-i.auto.i c.loop-i-test.true (number_get ws c.loop-i.i c.offset_after-last.result c.offset_after-last.ensures) in
    let k : slice_get rs c.loop-i.i ≡ Some (word_row x) = shifted_word c.args.lower c.args.start ws c.loop-i.i c.offset_after-last.result c.offset_after-last.ensures h.1 in
    record {
      took = took_more rs c.args.range.start c.loop-i.i (word_row x) c.loop-i.auto.i k c.loop-i.invariant.took c.in-Ok.ensures.ok;
      turns = omega (arith, c.tick.ensures.turns, c.loop-i.invariant.turns, c.loop-i.auto.i);
      last = number_after ws c.loop-i.i c.offset_after-last.result c.offset_after-last.ensures;
    }

pub returns-clause-ok : goal.returns-clause-ok
returns-clause-ok g c =
    let e : c.loop-i.i ≡ c.args.range.«end» = omega (arith, c.requires.ordered, c.loop-i.auto.i-end c.requires.ordered) in
    rw e at c.loop-i.invariant.took
