use Rattle.std.proofs.Common.{◌≡◌, ◌≤◌, ◌+◌, ◌^◌, ◌∙◌, sym, ap, arith, refl, length, length-append, sum, [], ◌∷◌}
use Rattle.columnar_base.specs.ChangeLaws.{passed_on}
use Rattle.columnar_nested.specs.TreeValues.{values_in}
use Rattle.columnar_nested.specs.Weights.{total, count, value_sum}
use Rattle.columnar_nested.specs.WeightLaws.{sum_is, total-push, summed_pop, popped_fewer, summed_all, summed_kids, summed_later, summed_within, value_within, node_fewer, kids_fewer, later_fewer}
use Rattle.columnar_nested.proofs.tree.Tree+usize.+sum.Goals as goal
use Rattle.columnar_nested.proofs.tree.Tree+usize.+sum.Goals.{then-keep, else-keep+in_ok-part-in-Some}

pub loop-waiting-smaller-in-Some-pop : goal.loop-waiting-smaller-in-Some-pop
loop-waiting-smaller-in-Some-pop t c =
    let i = ap (total (λ ts. count ts.now)) c.in-Some-pop.ensures.items ∙ total-push (λ ts. count ts.now) c.pop.new.self.items c.in-Some-pop.next in
    let l = ap length c.in-Some-pop.ensures.items in
    popped_fewer c.loop-waiting.rest.now c.in-Some-pop.next.now (total (λ ts. count ts.now) c.loop-waiting.waiting.items) (total (λ ts. count ts.now) c.pop.new.self.items) (length c.loop-waiting.waiting.items) (length c.pop.new.self.items) c.in-None.ensures.cases i (l ∙ length-append c.pop.new.self.items (c.in-Some-pop.next ∷ []))

pub loop-waiting-preserved-in-Some-pop : goal.loop-waiting-preserved-in-Some-pop
loop-waiting-preserved-in-Some-pop t c =
    summed_pop c.args.self.now c.loop-waiting.sum c.loop-waiting.rest.now c.in-Some-pop.next.now c.loop-waiting.invariant c.in-None.ensures.cases
    (ap (total (λ ts. value_sum ts.now)) c.in-Some-pop.ensures.items ∙ total-push (λ ts. value_sum ts.now) c.pop.new.self.items c.in-Some-pop.next)
    (ap (total (λ ts. count ts.now)) c.in-Some-pop.ensures.items ∙ total-push (λ ts. count ts.now) c.pop.new.self.items c.in-Some-pop.next)

pub returns-in-None-pop-clause-ok : goal.returns-in-None-pop-clause-ok
returns-in-None-pop-clause-ok t c =
    summed_all c.args.self.now c.loop-waiting.sum c.loop-waiting.rest.now (λ ts. value_sum ts.now) (λ ts. count ts.now) c.loop-waiting.waiting.items c.loop-waiting.invariant c.in-None.ensures.cases (sym c.loop-waiting.waiting.ok.0 ∙ c.in-None-pop.ensures.cases.0) ∙ sym (sum_is c.args.self.now)

pub sum-requires : goal.sum-requires
sum-requires t c = (rw c.decreases at (node_fewer c.args.self.now c.in-Some.node.now c.loop-waiting.sum c.loop-waiting.rest.now c.in-Some.later.now (total (λ ts. value_sum ts.now) c.loop-waiting.waiting.items) (total (λ ts. count ts.now) c.loop-waiting.waiting.items) c.loop-waiting.invariant c.in-Some.ensures.cases.0), tt)

pub returns-in_err-part-in-Some-clause-err : goal.returns-in_err-part-in-Some-clause-err
returns-in_err-part-in-Some-clause-err t c =
    let s = sum_is c.args.self.now in
    let n = sum_is c.in-Some.node.now in
    let l = summed_within c.args.self.now c.in-Some.node.now c.loop-waiting.sum c.loop-waiting.rest.now c.in-Some.later.now (total (λ ts. value_sum ts.now) c.loop-waiting.waiting.items) (total (λ ts. count ts.now) c.loop-waiting.waiting.items) c.loop-waiting.invariant c.in-Some.ensures.cases.0 in
    let e : 2 ^ 64 ≤ sum (values_in c.in-Some.node.now) = c.in_err-part-in-Some.ensures.err in
    let p : 2 ^ 64 ≤ sum (values_in c.args.self.now) = omega (arith, s, n, l, e) in
    rw (passed_on c.from_residual.result c.from_residual.ensures.1) p

pub returns-in_default-clause-err : goal.returns-in_default-clause-err
returns-in_default-clause-err t c =
    let s = sum_is c.args.self.now in
    let n = sum_is c.in-Some.node.now in
    let l = summed_within c.args.self.now c.in-Some.node.now c.loop-waiting.sum c.loop-waiting.rest.now c.in-Some.later.now (total (λ ts. value_sum ts.now) c.loop-waiting.waiting.items) (total (λ ts. count ts.now) c.loop-waiting.waiting.items) c.loop-waiting.invariant c.in-Some.ensures.cases.0 in
    let e = c.in_default.ensures in
    elim c.if-keep.branch [
      | then-keep w ↦
          let v = value_within c.in-Some.node.now in
          let p : 2 ^ 64 ≤ sum (values_in c.args.self.now) = omega (arith, s, l, e, v, w.part-is) in
          p
      | else-keep+in_ok-part-in-Some w ↦
          let v : c.if-keep.part ≡ sum (values_in c.in-Some.node.now) = w.part-is ∙ w.in_ok-part-in-Some.ensures.ok in
          let p : 2 ^ 64 ≤ sum (values_in c.args.self.now) = omega (arith, s, n, l, e, v) in
          p
    ]

pub loop-waiting-smaller : goal.loop-waiting-smaller
loop-waiting-smaller t c =
    elim c.if-keep.branch [
      | then-keep w ↦
          rw w.rest-is (kids_fewer c.in-Some.node.now c.loop-waiting.rest.now c.in-Some.later.now w.as_slice-rest-then-keep.result.now (total (λ ts. count ts.now) c.loop-waiting.waiting.items) (total (λ ts. count ts.now) c.keep.new.waiting.items) (length c.loop-waiting.waiting.items) (length c.keep.new.waiting.items) c.in-Some.ensures.cases.0 w.as_slice-rest-then-keep.ensures.value (c.keep.ensures.kept w.if-keep.true count refl) c.keep.ensures.longer)
      | else-keep+in_ok-part-in-Some w ↦
          rw (w.rest-is, c.keep.ensures.refused w.if-keep.false) (later_fewer c.in-Some.node.now c.loop-waiting.rest.now c.in-Some.later.now (total (λ ts. count ts.now) c.loop-waiting.waiting.items) (length c.loop-waiting.waiting.items) c.in-Some.ensures.cases.0)
    ]

pub loop-waiting-preserved : goal.loop-waiting-preserved
loop-waiting-preserved t c =
    elim c.if-keep.branch [
      | then-keep w ↦
          rw w.rest-is (summed_kids c.args.self.now c.in-Some.node.now c.loop-waiting.sum c.loop-waiting.rest.now c.in-Some.later.now (total (λ ts. value_sum ts.now) c.loop-waiting.waiting.items) (total (λ ts. count ts.now) c.loop-waiting.waiting.items) c.loop-waiting.invariant c.in-Some.ensures.cases.0 w.as_slice-rest-then-keep.ensures.value w.part-is (c.keep.ensures.kept w.if-keep.true value_sum refl) (c.keep.ensures.kept w.if-keep.true count refl) c.in-Some-checked_add.ensures.1)
      | else-keep+in_ok-part-in-Some w ↦
          rw (w.rest-is, c.keep.ensures.refused w.if-keep.false) (summed_later c.args.self.now c.in-Some.node.now c.loop-waiting.sum c.loop-waiting.rest.now c.in-Some.later.now (total (λ ts. value_sum ts.now) c.loop-waiting.waiting.items) (total (λ ts. count ts.now) c.loop-waiting.waiting.items) c.loop-waiting.invariant c.in-Some.ensures.cases.0 (w.part-is ∙ (w.in_ok-part-in-Some.ensures.ok ∙ sum_is c.in-Some.node.now)) c.in-Some-checked_add.ensures.1)
    ]
