use Rattle.std.proofs.Common.{◌≡◌, ℕ, ◌+◌, ◌-◌, ◌/◌, ◌<◌, ◌≤◌, ◌∙◌, refl, sym, subst, ⊎_elim, arith, length}
use Rattle.std.proofs.lemmas.Bool.{cases_lt}
use Rattle.std.specs.Prelude.{slice_index}
use Rattle.columnar_sums.specs.CountLaws.{count_before_next, halving}
use Rattle.columnar_sums.proofs.rank_select.search.find_in_span.Goals as goal

pub loop-rest-init : goal.loop-rest-init
loop-rest-init g c =
    let same : c.args.tally.now.counts - c.args.tally.now.counts ≡ 0 = omega arith in
    record {
      span = c.requires.span;
      more = omega arith;
      shrinks = rw same (omega arith);
      cost = rw same (omega arith);
      words = refl;
      turns = omega arith;
    }

pub loop-rest-preserved-then-count-rank : goal.loop-rest-preserved-then-count-rank
loop-rest-preserved-then-count-rank g c =
    let i = c.loop-rest.invariant in
    let n : ℕ = c.loop-rest.rest in
    let at : ℕ = c.loop-rest.low + (n - n / 2) - 1 in
    let s = halving c.args.tally.now.counts c.loop-rest.tally.counts c.read-count.new.tally.counts n (n / 2) c.args.span.rest (omega arith) i.more i.shrinks (omega arith) (omega arith) in
    let next : c.loop-rest.low + (n - n / 2) ≡ at + 1 = omega arith in
    let same : c.loop-rest.low + (n - n / 2) + n / 2 ≡ c.loop-rest.low + n = omega arith in
    record {
      span =
          record {
            within = omega (arith, i.span.within);
            fits = omega (arith, i.span.fits);
            before = rw next (c.read-count.ensures.value ∙ sym (count_before_next c.args.counts.now at));
            below = omega arith;
            above = subst (λ (x : ℕ). x < length c.args.counts.now → c.args.rank < slice_index c.args.counts.now x) (sym same) i.span.above;
          };
      more = omega arith;
      shrinks = s.0;
      cost = s.1;
      words = c.read-count.ensures.words ∙ c.tick.ensures.words ∙ i.words;
      turns = omega arith;
    }

pub loop-rest-preserved : goal.loop-rest-preserved
loop-rest-preserved g c =
    let i = c.loop-rest.invariant in
    let n : ℕ = c.loop-rest.rest in
    let at : ℕ = c.loop-rest.low + (n - n / 2) - 1 in
    let s = halving c.args.tally.now.counts c.loop-rest.tally.counts c.read-count.new.tally.counts n (n / 2) c.args.span.rest (omega arith) i.more i.shrinks (omega arith) (omega arith) in
    record {
      span =
          record {
            within = omega (arith, i.span.within);
            before = i.span.before;
            below = i.span.below;
            above = λ h.
                ⊎_elim (λ (p : n / 2 < n - n / 2). let e : c.loop-rest.low + n / 2 ≡ at = omega arith in subst (λ (x : ℕ). c.args.rank < slice_index c.args.counts.now x) (sym e) (omega (arith, c.read-count.ensures.value)))
                (λ (p : n - n / 2 ≤ n / 2).
                let e : c.loop-rest.low + n / 2 ≡ at + 1 = omega arith in
                let r = c.requires.rising at (omega arith) in
                subst (λ (x : ℕ). c.args.rank < slice_index c.args.counts.now x) (sym e) (omega (arith, r, c.read-count.ensures.value)))
                (cases_lt (n / 2) (n - n / 2));
            fits = omega (arith, i.span.fits);
          };
      more = omega arith;
      shrinks = s.0;
      cost = s.1;
      words = c.read-count.ensures.words ∙ c.tick.ensures.words ∙ i.words;
      turns = omega arith;
    }
