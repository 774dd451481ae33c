use Rattle.std.proofs.Common.{◌≡◌, ◌+◌, ◌*◌, ◌<◌, ◌∙◌, ℕ, List, length, arith, ap, refl}
use Rattle.std.specs.Prelude.{count_ones}
use Rattle.std.proofs.lemmas.List.{take_all}
use Rattle.columnar_core.specs.WordViews.{bit_words, view_bytes, view_words, le_bytes, words_in}
use Rattle.columnar_bits.specs.Bits.{bit_in}
use Rattle.columnar_bits.specs.BoolLaws.{length_words_back}
use Rattle.columnar_sums.specs.Counting.{ones_below}
use Rattle.columnar_sums.specs.RankByteLaws.{sum_word}
use Rattle.columnar_sums.specs.RankChangeLaws.{counted_on, sum_fits, sum_start}
use Rattle.columnar_sums.proofs.rank_select.grow.count_on.Goals as goal

pub count_after-sum-requires : goal.count_after-sum-requires
count_after-sum-requires g c = rw c.words.ensures (omega (arith, c.len-before.ensures, length_words_back c.args.counts.now.items))

pub loop-chunk-init : goal.loop-chunk-init
loop-chunk-init g c =
    let ws : List ℕ = bit_words (view_bytes c.args.values) (view_bytes c.args.tail) in
    record {
      sum = c.count_after-sum.ensures ∙ (rw c.words.ensures (sum_start ws (words_in (le_bytes c.args.counts.now.items)) c.len-before.result c.requires.exact (omega (arith, c.len-before.ensures, length_words_back c.args.counts.now.items))));
      counted = record { exact = c.requires.exact; many = omega (arith, c.len-before.ensures); front = take_all _ _ (omega (arith, c.len-before.ensures)) };
      from = omega arith;
      capacity = omega arith;
      turns = refl;
    }

pub loop-at-init : goal.loop-at-init
loop-at-init g c =
    let ws : List ℕ = bit_words (view_bytes c.args.values) (view_bytes c.args.tail) in
    let q : 1024 * c.loop-chunk.chunk ≡ 64 * (16 * c.loop-chunk.chunk) = omega arith in
    record {
      sum = c.loop-chunk.invariant.sum ∙ ap (ones_below (bit_in ws)) q;
      turns = omega (arith, c.loop-chunk.invariant.turns, c.tick.ensures.turns);
    }

pub overflow_add-sum : goal.overflow_add-sum
overflow_add-sum g c =
    let ws : List ℕ = bit_words (view_bytes c.args.values) (view_bytes c.args.tail) in
    let l : c.loop-at.at < length (view_words c.args.values) = omega (arith, c.word_count-chunk-end.ensures.count, c.loop-chunk-test.true, c.loop-at-test.true) in
    let e = sum_word (view_bytes c.args.values) (view_bytes c.args.tail) c.loop-at.at c.word_at.result c.loop-at.sum l c.loop-at.invariant.sum c.word_at.ensures c.word_at.type_inv in
    omega (arith, sum_fits ws (c.loop-at.at + 1) (c.loop-at.sum + count_ones c.word_at.result) e, c.requires.short, l)

pub loop-at-preserved : goal.loop-at-preserved
loop-at-preserved g c =
    let l : c.loop-at.at < length (view_words c.args.values) = omega (arith, c.word_count-chunk-end.ensures.count, c.loop-chunk-test.true, c.loop-at-test.true) in
    record {
      sum = sum_word (view_bytes c.args.values) (view_bytes c.args.tail) c.loop-at.at c.word_at.result c.loop-at.sum l c.loop-at.invariant.sum c.word_at.ensures c.word_at.type_inv;
      turns = omega (arith, c.loop-at.invariant.turns, c.tick.ensures.turns);
    }

pub loop-chunk-preserved : goal.loop-chunk-preserved
loop-chunk-preserved g c =
    let ws : List ℕ = bit_words (view_bytes c.args.values) (view_bytes c.args.tail) in
    let q : 64 * c.loop-at.at ≡ 1024 * (c.loop-chunk.chunk + 1) = omega (arith, c.loop-at-test.false) in
    let e = c.loop-at.invariant.sum ∙ ap (ones_below (bit_in ws)) q in
    record {
      sum = e;
      counted = counted_on c.loop-at.sum c.loop-chunk.invariant.counted c.loop-chunk.invariant.from e (omega (arith, c.loop-at.auto.sum-fits)) c.in-Ok.ensures.items;
      from = omega (arith, c.loop-chunk.invariant.from);
      capacity = omega (arith, c.loop-chunk.invariant.capacity, c.push.ensures.capacity);
      turns = omega (arith, c.loop-at.invariant.turns, q);
    }

pub returns-in-Err-clause-full : goal.returns-in-Err-clause-full
returns-in-Err-clause-full g c = omega (arith, c.loop-chunk.invariant.capacity, c.in-Err.ensures.full, c.loop-chunk.invariant.counted.many, c.loop-chunk.counts.ok.0, c.loop-chunk-test.true, c.word_count-chunk-end.ensures.count)

pub returns-in-Err-clause-capacity : goal.returns-in-Err-clause-capacity
returns-in-Err-clause-capacity g c = omega (arith, c.loop-chunk.invariant.capacity, c.push.ensures.capacity, c.truncate.ensures.capacity)

pub returns-clause-capacity : goal.returns-clause-capacity
returns-clause-capacity g c = c.loop-chunk.invariant.capacity
