use Rattle.std.proofs.Common.{ℕ, List, [], ◌∷◌, ◌++◌, ◌≤◌, refl, sym, ◌∙◌, ap, rules}
use Rattle.std.specs.Prelude.{slice_index}
use Rattle.std.proofs.lemmas.List.{length-set, take_more}
use Rattle.columnar_sums.specs.FormLaws.{counted_none, counted_more, counted_few}
use Rattle.bench.proofs.work.push_variants.Goals as goal

pub loop-variant-init : goal.loop-variant-init
loop-variant-init c = record { sound = c.empty-column.ensures.sound; pushed = c.empty-column.ensures.none; size = refl; counted = counted_none c.args.variants.now }

pub overflow_add-counts : goal.overflow_add-counts
overflow_add-counts c =
    let vs : List ℕ = c.args.variants.now in
    let at : ℕ = c.loop-variant.variant-index in
    let few : slice_index c.loop-variant.counts (slice_index vs at) ≤ at = counted_few vs c.loop-variant.counts at (slice_index vs at) (c.type_inv.variants at).fits c.loop-variant.invariant.counted in
    search (rules, few, c.loop-variant-test.true)

pub loop-variant-preserved : goal.loop-variant-preserved
loop-variant-preserved c =
    let vs : List ℕ = c.args.variants.now in
    let at : ℕ = c.loop-variant.variant-index in
    let v : ℕ = slice_index vs at in
    record {
      sound = c.in_ok-push.ensures.ok.grew.sound;
      pushed = c.in_ok-push.ensures.variants ∙ (ap (λ (xs : List ℕ). xs ++ v ∷ []) c.loop-variant.invariant.pushed ∙ sym (take_more vs at 0 c.loop-variant-test.true));
      size = length-set c.loop-variant.counts v _ ∙ c.loop-variant.invariant.size;
      counted = counted_more vs c.loop-variant.counts at c.loop-variant.invariant.size c.loop-variant-test.true (c.type_inv.variants at).fits c.loop-variant.invariant.counted;
    }
