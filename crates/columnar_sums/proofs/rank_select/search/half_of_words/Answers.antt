use Rattle.std.proofs.Common.{◌≡◌, ℕ, ◌+◌, ◌*◌, ◌++◌, ◌∷◌, [], List, ◌∙◌, ap, length, take, arith}
use Rattle.columnar_bits.specs.Bits.{bit_in}
use Rattle.columnar_sums.specs.Counting.{ones_below}
use Rattle.columnar_sums.specs.CountLaws.{kept_more, length_words, ones_below_le, ones_word_whole}
use Rattle.columnar_sums.proofs.rank_select.search.half_of_words.Goals as goal

pub overflow_add-sum : goal.overflow_add-sum
overflow_add-sum g c =
    let e = ones_word_whole c.args.words.now (c.args.span.low + c.loop-i.i) c.read_whole.result c.read_whole.ensures.value c.read_whole.type_inv in
    let l = ones_below_le (bit_in c.args.words.now) (64 * (c.args.span.low + c.loop-i.i + 1)) in
    omega (arith, e, l, c.loop-i.invariant.sum)

pub loop-i-preserved : goal.loop-i-preserved
loop-i-preserved g c =
    let at : ℕ = c.args.span.low + c.loop-i.i in
    let more : c.args.span.low + (c.loop-i.i + 1) ≡ at + 1 = omega arith in
    let sum = ap (λ (k : ℕ). ones_below (bit_in c.args.words.now) (64 * k)) more ∙ ones_word_whole c.args.words.now at c.read_whole.result c.read_whole.ensures.value c.read_whole.type_inv in
    record {
      sum = omega (arith, sum, c.loop-i.invariant.sum);
      counts = omega (arith, c.tick.ensures.counts, c.read_whole.ensures.counts, c.loop-i.invariant.counts);
      words = omega (arith, length_words c.tick.new.self.words at, ap length c.tick.ensures.words, ap length c.read_whole.ensures.words, c.loop-i.invariant.words);
      turns = omega (arith, c.tick.ensures.turns, c.read_whole.ensures.turns, c.loop-i.invariant.turns);
      kept = ap (take (length c.args.tally.now.words)) (c.read_whole.ensures.words ∙ ap (λ (t : List ℕ). t ++ at ∷ []) c.tick.ensures.words) ∙ kept_more c.args.tally.now.words c.loop-i.tally.words at c.loop-i.invariant.kept (omega (arith, c.loop-i.invariant.words));
    }
