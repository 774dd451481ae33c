use Rattle.std.proofs.Common.{◌≡◌, ◌+◌, ◌-◌, ◌^◌, ◌≤◌, true, false, length, take, refl, ◌∙◌, ap, arith, ⊎_elim}
use Rattle.std.specs.Prelude.{slice_get, Some}
use Rattle.std.proofs.lemmas.Bool.{cases_eq}
use Rattle.columnar_core.specs.Elements.{word_row}
use Rattle.columnar_core.specs.ChangeLaws.{took_more}
use Rattle.columnar_core.specs.Bounds.{numbers, shifted}
use Rattle.columnar_core.specs.BoundLaws.{number_get, number_after}
use Rattle.columnar_primitive.specs.Stride.{strides_rows, head_and_bounds}
use Rattle.columnar_primitive.specs.StrideLaws.{copy_begun, strides_undone, front_kept}
use Rattle.columnar_primitive.specs.StrideCopyLaws.{extended_none, extended_more, joins_in, shifted_word, length-shifted, length-copied, strides_few}
use Rattle.columnar_primitive.proofs.offsets.strides.StridesVecU64ArrayU642ExtendShifted.extend_shifted_tallied.Goals as goal

pub loop-i-init : goal.loop-i-init
loop-i-init g c =
    let ws = g.W.Column.format.rows (g.W.Column.content c.args.view.now) in
    let rs = shifted c.args.lower c.args.start (numbers ws) in
    let p = copy_begun c.args.self.now.head c.args.self.now.bounds.items rs c.args.range.start c.len-count_before.result c.requires.sound (omega (arith, c.len-count_before.ensures)) in
    let q = extended_none rs c.args.self.now.head c.args.self.now.bounds.items c.args.range.start in
    record { took = p.0; front = p.1; head = q.0; bounds = q.1; turns = omega arith; last = c.requires.lower }

pub overflow_sub-last : goal.overflow_sub-last
overflow_sub-last g c = (c.requires.held c.loop-i.i c.offset_after-last.result c.loop-i.auto.i c.loop-i-test.true (number_get (g.W.Column.format.rows (g.W.Column.content c.args.view.now)) c.loop-i.i c.offset_after-last.result c.offset_after-last.ensures)).0

pub overflow_add-start : goal.overflow_add-start
overflow_add-start g c =
    let h = c.requires.held c.loop-i.i c.offset_after-last.result c.loop-i.auto.i c.loop-i-test.true (number_get (g.W.Column.format.rows (g.W.Column.content c.args.view.now)) c.loop-i.i c.offset_after-last.result c.offset_after-last.ensures) in
    omega (arith, h.1)

pub returns-in-Err-clause-err : goal.returns-in-Err-clause-err
returns-in-Err-clause-err g c =
    let ws = g.W.Column.format.rows (g.W.Column.content c.args.view.now) in
    let rs = shifted c.args.lower c.args.start (numbers ws) in
    let x = c.args.start + (c.offset_after-last.result - c.args.lower) in
    let h = c.requires.held c.loop-i.i c.offset_after-last.result c.loop-i.auto.i c.loop-i-test.true (number_get ws c.loop-i.i c.offset_after-last.result c.offset_after-last.ensures) in
    let k : slice_get rs c.loop-i.i ≡ Some (word_row x) = shifted_word c.args.lower c.args.start ws c.loop-i.i c.offset_after-last.result c.offset_after-last.ensures h.1 in
    strides_undone rs c.args.self.now.head c.args.self.now.bounds.items c.args.self.now.head c.truncate.new.self.items (head_and_bounds c.loop-i.self.head c.loop-i.self.bounds.items) c.args.range.start c.loop-i.i c.args.range.«end» (word_row x)
    c.requires.sound refl (c.truncate.ensures.items ∙ (ap (take c.len-count_before.result) c.in-Err.ensures.bounds_stay ∙ c.loop-i.invariant.front)) c.loop-i.auto.i c.loop-i-test.true k c.loop-i.invariant.took c.in-Err.ensures.err.cause

pub loop-i-preserved : goal.loop-i-preserved
loop-i-preserved g c =
    let ws = g.W.Column.format.rows (g.W.Column.content c.args.view.now) in
    let rs = shifted c.args.lower c.args.start (numbers ws) in
    let x = c.args.start + (c.offset_after-last.result - c.args.lower) in
    let h = c.requires.held c.loop-i.i c.offset_after-last.result c.loop-i.auto.i c.loop-i-test.true (number_get ws c.loop-i.i c.offset_after-last.result c.offset_after-last.ensures) in
    let k : slice_get rs c.loop-i.i ≡ Some (word_row x) = shifted_word c.args.lower c.args.start ws c.loop-i.i c.offset_after-last.result c.offset_after-last.ensures h.1 in
    let q = extended_more rs c.args.self.now.head c.args.self.now.bounds.items c.args.range.start c.loop-i.i x c.loop-i.auto.i h.1 k c.loop-i.invariant.head c.loop-i.invariant.bounds c.in-Ok.ensures.head c.in-Ok.ensures.bounds in
    record {
      took = took_more rs c.args.range.start c.loop-i.i (word_row x) c.loop-i.auto.i k c.loop-i.invariant.took c.in-Ok.ensures.ok;
      front = rw c.in-Ok.ensures.bounds (front_kept c.len-count_before.result c.args.self.now.bounds.items c.loop-i.self.bounds.items c.loop-i.self.head x (omega (arith, c.len-count_before.ensures)) c.loop-i.invariant.front);
      head = q.0;
      bounds = q.1;
      turns = omega (arith, c.tick.ensures.turns, c.loop-i.invariant.turns, c.loop-i.auto.i);
      last = number_after ws c.loop-i.i c.offset_after-last.result c.offset_after-last.ensures;
    }

pub returns-clause-ok : goal.returns-clause-ok
returns-clause-ok g c =
    let e : c.loop-i.i ≡ c.args.range.«end» = omega (arith, c.requires.ordered, c.loop-i.auto.i-end c.requires.ordered) in
    rw e at c.loop-i.invariant.took

pub returns-clause-head : goal.returns-clause-head
returns-clause-head g c =
    let e : c.loop-i.i ≡ c.args.range.«end» = omega (arith, c.requires.ordered, c.loop-i.auto.i-end c.requires.ordered) in
    rw e at c.loop-i.invariant.head

pub returns-clause-bounds : goal.returns-clause-bounds
returns-clause-bounds g c =
    let e : c.loop-i.i ≡ c.args.range.«end» = omega (arith, c.requires.ordered, c.loop-i.auto.i-end c.requires.ordered) in
    rw e at c.loop-i.invariant.bounds

pub returns-in-Err-clause-head_stays : goal.returns-in-Err-clause-head_stays
returns-in-Err-clause-head_stays g c = refl

pub returns-in-Err-clause-bounds_stay : goal.returns-in-Err-clause-bounds_stay
returns-in-Err-clause-bounds_stay g c = c.truncate.ensures.items ∙ (ap (take c.len-count_before.result) c.in-Err.ensures.bounds_stay ∙ c.loop-i.invariant.front)

pub returns-clause-full : goal.returns-clause-full
returns-clause-full g c = λ l j.
    let ws = g.W.Column.format.rows (g.W.Column.content c.args.view.now) in
    let rs = shifted c.args.lower c.args.start (numbers ws) in
    let e : c.loop-i.i ≡ c.args.range.«end» = omega (arith, c.requires.ordered, c.loop-i.auto.i-end c.requires.ordered) in
    let n = length-copied rs c.args.range.start c.loop-i.i c.loop-i.auto.i (omega (arith, length-shifted c.args.lower c.args.start ws, c.requires.in_range, e)) c.loop-i.invariant.took in
    absurd (omega (arith, l, n, e, strides_few c.loop-i.invariant.took))

pub returns-in-Err-clause-no_memory : goal.returns-in-Err-clause-no_memory
returns-in-Err-clause-no_memory g c = λ l j.
    let ws = g.W.Column.format.rows (g.W.Column.content c.args.view.now) in
    let rs = shifted c.args.lower c.args.start (numbers ws) in
    let x = c.args.start + (c.offset_after-last.result - c.args.lower) in
    let h = c.requires.held c.loop-i.i c.offset_after-last.result c.loop-i.auto.i c.loop-i-test.true (number_get ws c.loop-i.i c.offset_after-last.result c.offset_after-last.ensures) in
    let k : slice_get rs c.loop-i.i ≡ Some (word_row x) = shifted_word c.args.lower c.args.start ws c.loop-i.i c.offset_after-last.result c.offset_after-last.ensures h.1 in
    let n = length-copied rs c.args.range.start c.loop-i.i c.loop-i.auto.i (omega (arith, length-shifted c.args.lower c.args.start ws, c.requires.in_range, c.loop-i-test.true)) c.loop-i.invariant.took in
    c.in-Err.ensures.no_memory (omega (arith, l, n, c.loop-i-test.true)) (joins_in rs c.args.self.now.head c.args.self.now.bounds.items c.args.range.start c.loop-i.i c.args.range.«end» x c.loop-i.auto.i c.loop-i-test.true h.1 k c.loop-i.invariant.head c.loop-i.invariant.bounds j)

pub returns-in-Err-clause-full : goal.returns-in-Err-clause-full
returns-in-Err-clause-full g c = λ l j.
    let ws = g.W.Column.format.rows (g.W.Column.content c.args.view.now) in
    let rs = shifted c.args.lower c.args.start (numbers ws) in
    let x = c.args.start + (c.offset_after-last.result - c.args.lower) in
    let h = c.requires.held c.loop-i.i c.offset_after-last.result c.loop-i.auto.i c.loop-i-test.true (number_get ws c.loop-i.i c.offset_after-last.result c.offset_after-last.ensures) in
    let k : slice_get rs c.loop-i.i ≡ Some (word_row x) = shifted_word c.args.lower c.args.start ws c.loop-i.i c.offset_after-last.result c.offset_after-last.ensures h.1 in
    let rows = length (strides_rows (head_and_bounds c.loop-i.self.head c.loop-i.self.bounds.items)) in
    ⊎_elim
    (λ (e : rows ≡ 2 ^ 64 - 1). c.in-Err.ensures.full e)
    (λ (e : rows ≡ 2 ^ 64 - 1 → ⊥). let z : false ≡ true = c.in-Err.ensures.no_memory (let f : rows ≤ 2 ^ 64 - 1 = strides_few c.loop-i.invariant.took in omega (arith, f, e)) (joins_in rs c.args.self.now.head c.args.self.now.bounds.items c.args.range.start c.loop-i.i c.args.range.«end» x c.loop-i.auto.i c.loop-i-test.true h.1 k c.loop-i.invariant.head c.loop-i.invariant.bounds j) in cc)
    (cases_eq rows (2 ^ 64 - 1))
