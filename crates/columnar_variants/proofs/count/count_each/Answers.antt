use Rattle.std.proofs.Common.{◌≡◌, ◌<◌, refl, sym, ◌∙◌, ap, arith, length}
use Rattle.std.specs.Prelude.{slice_index}
use Rattle.std.proofs.lemmas.List.{length-set}
use Rattle.columnar_sums.specs.FormLaws.{counted_none, counted_more}
use Rattle.columnar_variants.specs.VariantCountLaws.{above_at, below_more}
use Rattle.columnar_variants.proofs.count.count_each.Goals as goal

pub loop-at-init : goal.loop-at-init
loop-at-init g c = record { size = refl; counted = counted_none c.args.variants.now; below = refl; turns = omega arith }

pub returns-then-variant-size-clause-below : goal.returns-then-variant-size-clause-below
returns-then-variant-size-clause-below g c = sym (above_at c.args.size c.args.variants.now c.loop-at.at c.loop-at-test.true (omega (arith, c.if-variant-size.true, c.variant_at-variant.ensures)))

pub loop-at-preserved : goal.loop-at-preserved
loop-at-preserved g c =
    let v : c.variant_at-variant.result ≡ slice_index c.args.variants.now c.loop-at.at = c.variant_at-variant.ensures in
    let n : c.count_of-before.result ≡ slice_index c.loop-at.counts c.variant_at-variant.result = c.count_of-before.ensures in
    let k : c.loop-at.at < length c.args.variants.now = c.loop-at-test.true in
    record {
      size = ap length c.set_count.ensures ∙ (length-set c.loop-at.counts c.variant_at-variant.result _ ∙ c.loop-at.invariant.size);
      counted = rw (c.set_count.ensures, n, v) (counted_more c.args.variants.now c.loop-at.counts c.loop-at.at c.loop-at.invariant.size k (rw v at c.variant_at-variant.type_inv) c.loop-at.invariant.counted);
      below = below_more c.args.size c.args.variants.now c.loop-at.at k (omega (arith, c.if-variant-size.false, v)) c.loop-at.invariant.below;
      turns = omega (arith, c.loop-at.invariant.turns, c.tick.ensures.turns);
    }
