use Rattle.std.proofs.Common.{◌≡◌, refl, sym, ◌∙◌, ap, arith, length}
use Rattle.std.specs.Prelude.{slice_index}
use Rattle.std.proofs.lemmas.List.{length-set}
use Rattle.columnar_core.specs.WordViews.{view_words}
use Rattle.columnar_sums.specs.FormLaws.{counted_none, counted_more, counted_few, placed_more, placed_test, misplaced_test}
use Rattle.columnar_sums.proofs.discriminant.bytes.are_numbered.Goals as goal

pub loop-at-init : goal.loop-at-init
loop-at-init g c = record { size = refl; counted = counted_none c.args.variants.now; placed = λ i l. absurd (omega arith); turns = omega arith }

pub count_one-requires : goal.count_one-requires
count_one-requires g c = omega (arith, counted_few c.args.variants.now c.loop-at.counts c.loop-at.at c.variant_at-variant.result c.variant_at-variant.type_inv c.loop-at.invariant.counted, c.if-offset-count_of.false, c.count_of.ensures, c.loop-at-test.true, c.word_count-rows.ensures.short)

pub returns-then-offset-count_of-clause-value : goal.returns-then-offset-count_of-clause-value
returns-then-offset-count_of-clause-value g c = misplaced_test c.args.variants.now (view_words c.args.offsets) c.loop-at.counts c.loop-at.at (omega (arith, c.loop-at-test.true, c.word_count-rows.ensures.count, c.requires.level)) c.loop-at.invariant.counted (rw c.variant_at-variant.ensures at c.variant_at-variant.type_inv) (λ h. c.if-offset-count_of.true (c.word_at-offset.ensures ∙ (h ∙ (ap (slice_index c.loop-at.counts) (sym c.variant_at-variant.ensures) ∙ sym c.count_of.ensures))))

pub returns-then-offset-count_of-clause-turns : goal.returns-then-offset-count_of-clause-turns
returns-then-offset-count_of-clause-turns g c = omega (arith, c.loop-at.invariant.turns, c.tick.ensures.turns, c.loop-at-test.true, c.word_count-rows.ensures.count, c.requires.level)

pub loop-at-preserved : goal.loop-at-preserved
loop-at-preserved g c =
    let v : c.variant_at-variant.result ≡ slice_index c.args.variants.now c.loop-at.at = c.variant_at-variant.ensures in
    let n : c.word_at-offset.result ≡ slice_index c.loop-at.counts c.variant_at-variant.result = c.if-offset-count_of.false ∙ c.count_of.ensures in
    record {
      size = ap length c.count_one.ensures ∙ (length-set c.loop-at.counts c.variant_at-variant.result _ ∙ c.loop-at.invariant.size);
      counted = rw (c.count_one.ensures, n, v) (counted_more c.args.variants.now c.loop-at.counts c.loop-at.at c.loop-at.invariant.size (omega (arith, c.loop-at-test.true, c.word_count-rows.ensures.count, c.requires.level)) (rw v at c.variant_at-variant.type_inv) c.loop-at.invariant.counted);
      placed = placed_more c.args.variants.now (view_words c.args.offsets) c.loop-at.at c.loop-at.invariant.placed (sym c.word_at-offset.ensures ∙ (n ∙ (ap (slice_index c.loop-at.counts) v ∙ c.loop-at.invariant.counted _ (rw v at c.variant_at-variant.type_inv))));
      turns = omega (arith, c.loop-at.invariant.turns, c.tick.ensures.turns);
    }

pub returns-clause-value : goal.returns-clause-value
returns-clause-value g c =
    let n = c.word_count-rows.ensures.count in
    let d : c.loop-at.at ≡ length (view_words c.args.offsets) = omega (arith, n, c.loop-at-test.false) in
    rw n (placed_test c.args.variants.now (view_words c.args.offsets) c.loop-at.counts c.count_of-2.result c.requires.some c.requires.level (rw d at c.loop-at.invariant.placed) (rw d at c.loop-at.invariant.counted) (rw c.variant_at.ensures at c.variant_at.type_inv) (rw c.variant_at.ensures at c.count_of-2.ensures))

pub returns-clause-turns : goal.returns-clause-turns
returns-clause-turns g c = omega (arith, c.loop-at.invariant.turns, c.loop-at-test.false, c.word_count-rows.ensures.count, c.requires.level)
