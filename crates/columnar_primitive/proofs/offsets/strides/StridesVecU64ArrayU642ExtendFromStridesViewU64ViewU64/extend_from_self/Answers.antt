use Rattle.std.proofs.Common.{◌≡◌, ◌-◌, ◌^◌, ◌≤◌, true, false, length, take, refl, ◌∙◌, ap, arith, ⊎_elim}
use Rattle.std.proofs.lemmas.Bool.{cases_eq}
use Rattle.std.specs.Int.{to_le_bytes, w64}
use Rattle.columnar_core.specs.Elements.{word_row}
use Rattle.columnar_core.specs.Format.{both, slice}
use Rattle.columnar_core.specs.Views.{items_content}
use Rattle.columnar_core.specs.ChangeLaws.{took_more}
use Rattle.columnar_core.specs.WordViews.{bytes_of}
use Rattle.columnar_primitive.specs.Stride.{strides_rows, head_and_bounds}
use Rattle.columnar_primitive.specs.StrideLaws.{copy_begun, strides_undone, strides_copied, front_kept}
use Rattle.columnar_primitive.specs.StrideCopyLaws.{extended_none, extended_more, joins_in, length-copied, strides_few}
use Rattle.columnar_primitive.proofs.offsets.strides.StridesVecU64ArrayU642ExtendFromStridesViewU64ViewU64.extend_from_self.Goals as goal

pub loop-i-init : goal.loop-i-init
loop-i-init c =
    let p = copy_begun c.args.self.now.head c.args.self.now.bounds.items (strides_rows (both (slice (bytes_of (items_content (to_le_bytes w64) c.args.view.head.items))) (slice (bytes_of (items_content (to_le_bytes w64) c.args.view.bounds.items))))) c.args.range.start c.len-count.result c.requires.sound (omega (arith, c.len-count.ensures)) in
    let q = extended_none (strides_rows (both (slice (bytes_of (items_content (to_le_bytes w64) c.args.view.head.items))) (slice (bytes_of (items_content (to_le_bytes w64) c.args.view.bounds.items))))) c.args.self.now.head c.args.self.now.bounds.items c.args.range.start in
    (p.0, (p.1, q))

pub returns-in-Err-clause-err : goal.returns-in-Err-clause-err
returns-in-Err-clause-err c =
    strides_undone (strides_rows (both (slice (bytes_of (items_content (to_le_bytes w64) c.args.view.head.items))) (slice (bytes_of (items_content (to_le_bytes w64) c.args.view.bounds.items))))) c.args.self.now.head c.args.self.now.bounds.items c.args.self.now.head c.truncate.new.self.items (head_and_bounds c.loop-i.self.head c.loop-i.self.bounds.items) c.args.range.start c.loop-i.i c.args.range.«end» (word_row c.get.result)
    c.requires.sound refl (c.truncate.ensures.items ∙ (ap (take c.len-count.result) c.in-Err.ensures.bounds_stay ∙ c.loop-i.invariant.1.0)) (omega arith) c.loop-i-test.true c.get.ensures.row c.loop-i.invariant.0 c.in-Err.ensures.err.cause

pub loop-i-preserved : goal.loop-i-preserved
loop-i-preserved c =
    let q = extended_more (strides_rows (both (slice (bytes_of (items_content (to_le_bytes w64) c.args.view.head.items))) (slice (bytes_of (items_content (to_le_bytes w64) c.args.view.bounds.items))))) c.args.self.now.head c.args.self.now.bounds.items c.args.range.start c.loop-i.i c.get.result (omega arith) (omega arith) c.get.ensures.row c.loop-i.invariant.1.1.0 c.loop-i.invariant.1.1.1 c.in-Ok.ensures.head c.in-Ok.ensures.bounds in (
      took_more (strides_rows (both (slice (bytes_of (items_content (to_le_bytes w64) c.args.view.head.items))) (slice (bytes_of (items_content (to_le_bytes w64) c.args.view.bounds.items))))) c.args.range.start c.loop-i.i (word_row c.get.result) (omega arith) c.get.ensures.row c.loop-i.invariant.0 c.in-Ok.ensures.ok,
      (rw c.in-Ok.ensures.bounds (front_kept c.len-count.result c.args.self.now.bounds.items c.loop-i.self.bounds.items c.loop-i.self.head c.get.result (omega (arith, c.len-count.ensures)) c.loop-i.invariant.1.0), q),
    )

pub returns-clause-ok : goal.returns-clause-ok
returns-clause-ok c =
    let e : c.loop-i.i ≡ c.args.range.«end» = omega arith in
    strides_copied c.args.range.start (rw e at c.loop-i.invariant.0)

pub returns-clause-head : goal.returns-clause-head
returns-clause-head c =
    let e : c.loop-i.i ≡ c.args.range.«end» = omega arith in
    rw e at c.loop-i.invariant.1.1.0

pub returns-clause-bounds : goal.returns-clause-bounds
returns-clause-bounds c =
    let e : c.loop-i.i ≡ c.args.range.«end» = omega arith in
    rw e at c.loop-i.invariant.1.1.1

pub returns-clause-full : goal.returns-clause-full
returns-clause-full c = λ l j.
    let n = length-copied (strides_rows (both (slice (bytes_of (items_content (to_le_bytes w64) c.args.view.head.items))) (slice (bytes_of (items_content (to_le_bytes w64) c.args.view.bounds.items))))) c.args.range.start c.loop-i.i (omega arith) (omega (arith, c.requires.in_range)) c.loop-i.invariant.0 in
    absurd (omega (arith, l, n, strides_few c.loop-i.invariant.0))

pub returns-in-Err-clause-head_stays : goal.returns-in-Err-clause-head_stays
returns-in-Err-clause-head_stays c = refl

pub returns-in-Err-clause-bounds_stay : goal.returns-in-Err-clause-bounds_stay
returns-in-Err-clause-bounds_stay c = c.truncate.ensures.items ∙ (ap (take c.len-count.result) c.in-Err.ensures.bounds_stay ∙ c.loop-i.invariant.1.0)

pub returns-in-Err-clause-no_memory : goal.returns-in-Err-clause-no_memory
returns-in-Err-clause-no_memory c = λ l j.
    let n = length-copied (strides_rows (both (slice (bytes_of (items_content (to_le_bytes w64) c.args.view.head.items))) (slice (bytes_of (items_content (to_le_bytes w64) c.args.view.bounds.items))))) c.args.range.start c.loop-i.i (omega arith) (omega (arith, c.requires.in_range, c.loop-i-test.true)) c.loop-i.invariant.0 in
    c.in-Err.ensures.no_memory (omega (arith, l, n, c.loop-i-test.true)) (joins_in (strides_rows (both (slice (bytes_of (items_content (to_le_bytes w64) c.args.view.head.items))) (slice (bytes_of (items_content (to_le_bytes w64) c.args.view.bounds.items))))) c.args.self.now.head c.args.self.now.bounds.items c.args.range.start c.loop-i.i c.args.range.«end» c.get.result (omega arith) c.loop-i-test.true (omega arith) c.get.ensures.row c.loop-i.invariant.1.1.0 c.loop-i.invariant.1.1.1 j)

pub returns-in-Err-clause-full : goal.returns-in-Err-clause-full
returns-in-Err-clause-full c = λ l j.
    let n = length-copied (strides_rows (both (slice (bytes_of (items_content (to_le_bytes w64) c.args.view.head.items))) (slice (bytes_of (items_content (to_le_bytes w64) c.args.view.bounds.items))))) c.args.range.start c.loop-i.i (omega arith) (omega (arith, c.requires.in_range, c.loop-i-test.true)) c.loop-i.invariant.0 in
    let rows = length (strides_rows (head_and_bounds c.loop-i.self.head c.loop-i.self.bounds.items)) in
    ⊎_elim
    (λ (e : rows ≡ 2 ^ 64 - 1). c.in-Err.ensures.full e)
    (λ (e : rows ≡ 2 ^ 64 - 1 → ⊥). let z : false ≡ true = c.in-Err.ensures.no_memory (let k : rows ≤ 2 ^ 64 - 1 = strides_few c.loop-i.invariant.0 in omega (arith, k, e)) (joins_in (strides_rows (both (slice (bytes_of (items_content (to_le_bytes w64) c.args.view.head.items))) (slice (bytes_of (items_content (to_le_bytes w64) c.args.view.bounds.items))))) c.args.self.now.head c.args.self.now.bounds.items c.args.range.start c.loop-i.i c.args.range.«end» c.get.result (omega arith) c.loop-i-test.true (omega arith) c.get.ensures.row c.loop-i.invariant.1.1.0 c.loop-i.invariant.1.1.1 j) in cc)
    (cases_eq rows (2 ^ 64 - 1))
