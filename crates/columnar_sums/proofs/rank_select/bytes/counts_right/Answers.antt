use Rattle.std.proofs.Common.{◌≡◌, ◌+◌, ◌*◌, ◌/◌, ◌<◌, ◌∙◌, ap, length, arith, sym, refl}
use Rattle.std.specs.Prelude.{count_ones}
use Rattle.columnar_core.specs.WordViews.{bit_words, view_bytes, view_words}
use Rattle.columnar_bits.specs.Bits.{bit_in}
use Rattle.columnar_sums.specs.Counting.{ones_below}
use Rattle.columnar_sums.specs.RankChangeLaws.{sum_fits, words_short}
use Rattle.columnar_sums.specs.RankByteLaws.{right_more, right_all, wrong_number, wrong_count, sum_word}
use Rattle.columnar_sums.proofs.rank_select.bytes.counts_right.Goals as goal

pub returns-then-word_count-chunks-clause-value : goal.returns-then-word_count-chunks-clause-value
returns-then-word_count-chunks-clause-value g c = sym (wrong_number (view_words c.args.counts) c.requires (λ h. c.if-word_count-chunks.true (omega (arith, h, c.word_count-chunks.ensures.count, c.word_count.ensures.count))))

pub loop-chunk-init : goal.loop-chunk-init
unfolding ones_below
loop-chunk-init g c = record { sum = refl; right = λ i l. absurd (omega arith); turns = omega arith }

pub overflow_add-sum : goal.overflow_add-sum
overflow_add-sum g c =
    let l : c.loop-at.at < length (view_words c.args.values) = omega (arith, c.word_count-chunks.ensures.count, c.loop-chunk-test.true, c.loop-at-test.true) in
    let e = sum_word (view_bytes c.args.values) (view_bytes c.args.tail) c.loop-at.at c.word_at.result c.loop-at.sum l c.loop-at.invariant.sum c.word_at.ensures c.word_at.type_inv in
    omega (arith, sum_fits (bit_words (view_bytes c.args.values) (view_bytes c.args.tail)) (c.loop-at.at + 1) (c.loop-at.sum + count_ones c.word_at.result) e, words_short c.requires, l)

pub loop-at-init : goal.loop-at-init
loop-at-init g c =
    let q : 1024 * c.loop-chunk.chunk ≡ 64 * (16 * c.loop-chunk.chunk) = omega arith in
    record {
      sum = c.loop-chunk.invariant.sum ∙ ap (ones_below (bit_in (bit_words (view_bytes c.args.values) (view_bytes c.args.tail)))) q;
      turns = omega (arith, c.loop-chunk.invariant.turns, c.tick.ensures.turns);
    }

pub loop-at-preserved : goal.loop-at-preserved
loop-at-preserved g c =
    let l : c.loop-at.at < length (view_words c.args.values) = omega (arith, c.word_count-chunks.ensures.count, c.loop-chunk-test.true, c.loop-at-test.true) in
    record {
      sum = sum_word (view_bytes c.args.values) (view_bytes c.args.tail) c.loop-at.at c.word_at.result c.loop-at.sum l c.loop-at.invariant.sum c.word_at.ensures c.word_at.type_inv;
      turns = omega (arith, c.loop-at.invariant.turns, c.tick.ensures.turns);
    }

pub returns-then-word_at-sum-clause-value : goal.returns-then-word_at-sum-clause-value
returns-then-word_at-sum-clause-value g c =
    let ws = bit_words (view_bytes c.args.values) (view_bytes c.args.tail) in
    let q : 64 * c.loop-at.at ≡ 1024 * (c.loop-chunk.chunk + 1) = omega (arith, c.loop-at-test.false) in
    let e = c.loop-at.invariant.sum ∙ ap (ones_below (bit_in ws)) q in
    sym (wrong_count (view_words c.args.counts) c.loop-chunk.chunk c.loop-at.sum c.requires (omega (arith, c.if-word_count-chunks.false, c.word_count-chunks.ensures.count, c.word_count.ensures.count)) (omega (arith, c.if-word_count-chunks.false, c.word_count.ensures.count, c.loop-chunk-test.true)) (λ h. c.if-word_at-sum.true (c.word_at-in-loop-chunk.ensures ∙ h)) e)

pub loop-chunk-preserved : goal.loop-chunk-preserved
loop-chunk-preserved g c =
    let ws = bit_words (view_bytes c.args.values) (view_bytes c.args.tail) in
    let q : 64 * c.loop-at.at ≡ 1024 * (c.loop-chunk.chunk + 1) = omega (arith, c.loop-at-test.false) in
    let e = c.loop-at.invariant.sum ∙ ap (ones_below (bit_in ws)) q in
    record {
      sum = e;
      right = right_more ws (view_words c.args.counts) c.loop-chunk.chunk c.loop-at.sum c.loop-chunk.invariant.right (sym c.word_at-in-loop-chunk.ensures ∙ c.if-word_at-sum.false) e;
      turns = omega (arith, c.loop-at.invariant.turns, c.loop-at-test.false);
    }

pub returns-clause-value : goal.returns-clause-value
returns-clause-value g c =
    let d : c.loop-chunk.chunk ≡ length (view_words c.args.values) / 16 = omega (arith, c.word_count-chunks.ensures.count, c.loop-chunk-test.false) in
    sym (right_all (view_words c.args.counts) c.requires (rw d at c.loop-chunk.invariant.right) (omega (arith, c.if-word_count-chunks.false, c.word_count-chunks.ensures.count, c.word_count.ensures.count)))
