use Rattle.std.proofs.Common.{◌≡◌, ℕ, ◌+◌, ◌-◌, ◌*◌, ◌/◌, ◌%◌, ◌++◌, ◌∷◌, [], List, ◌∙◌, ap, length, take, slice_index, arith}
use Rattle.std.proofs.lemmas.List.{length-set}
use Rattle.columnar_bits.specs.Bits.{bit_in}
use Rattle.columnar_sums.specs.Counting.{ones_below}
use Rattle.columnar_sums.specs.CountLaws.{count_before_is, kept_more, length_words, ones_below_le, ones_word_whole}
use Rattle.columnar_sums.specs.HalfLaws.{before_more, half_counted, ones_of_word}
use Rattle.columnar_sums.proofs.rank_select.search.ones_by_half.Goals as goal

pub loop-i-preserved : goal.loop-i-preserved
loop-i-preserved g c =
    let first : ℕ = c.args.block - c.args.block % 8 in
    let at : ℕ = first + c.loop-i.i in
    let n = ones_of_word c.read_whole.result c.read_whole.type_inv in
    let more : first + (c.loop-i.i + 1) ≡ at + 1 = omega arith in
    let all = ap (λ (k : ℕ). ones_below (bit_in c.args.words.now) (64 * k)) more ∙ ones_word_whole c.args.words.now at c.read_whole.result c.read_whole.ensures.value c.read_whole.type_inv in
    record {
      all = omega (arith, all, c.loop-i.invariant.all);
      before = before_more (bit_in c.args.words.now) first c.loop-i.i c.loop-i.all c.loop-i.before c.loop-i.invariant.before (omega (arith, c.loop-i.invariant.eight)) c.loop-i.invariant.all;
      eight = length-set c.loop-i.before c.loop-i.i c.loop-i.all ∙ c.loop-i.invariant.eight;
      few = omega (arith, c.loop-i.invariant.few);
      counts = omega (arith, c.tick.ensures.counts, c.read_whole.ensures.counts, c.loop-i.invariant.counts);
      words = omega (arith, length_words c.tick.new.self.words at, ap length c.tick.ensures.words, ap length c.read_whole.ensures.words, c.loop-i.invariant.words);
      turns = omega (arith, c.tick.ensures.turns, c.read_whole.ensures.turns, c.loop-i.invariant.turns);
      kept = ap (take (length c.args.tally.now.words)) (c.read_whole.ensures.words ∙ ap (λ (t : List ℕ). t ++ at ∷ []) c.tick.ensures.words) ∙ kept_more c.args.tally.now.words c.loop-i.tally.words at c.loop-i.invariant.kept (omega (arith, c.loop-i.invariant.words));
    }

pub overflow_sub-result : goal.overflow_sub-result
overflow_sub-result g c =
    (half_counted (bit_in c.args.words.now) c.args.block c.loop-i.all (slice_index c.loop-i.before (c.args.block % 8)) c.ones_before-counted.result c.loop-i.i (omega arith) (c.ones_before-counted.ensures.value ∙ count_before_is _ _ ((c.args.block / 8 + 1) / 2) c.requires.exact c.requires.counted) c.loop-i.invariant.all (c.loop-i.invariant.before (c.args.block % 8) (omega arith))).0

pub overflow_add-result : goal.overflow_add-result
overflow_add-result g c =
    let h = half_counted (bit_in c.args.words.now) c.args.block c.loop-i.all (slice_index c.loop-i.before (c.args.block % 8)) c.ones_before-counted.result c.loop-i.i (omega arith) (c.ones_before-counted.ensures.value ∙ count_before_is _ _ ((c.args.block / 8 + 1) / 2) c.requires.exact c.requires.counted) c.loop-i.invariant.all (c.loop-i.invariant.before (c.args.block % 8) (omega arith)) in
    let l = ones_below_le (bit_in c.args.words.now) (64 * c.args.block) in
    omega (arith, h.1)

pub returns-clause-value : goal.returns-clause-value
returns-clause-value g c =
    (half_counted (bit_in c.args.words.now) c.args.block c.loop-i.all (slice_index c.loop-i.before (c.args.block % 8)) c.ones_before-counted.result c.loop-i.i (omega arith) (c.ones_before-counted.ensures.value ∙ count_before_is _ _ ((c.args.block / 8 + 1) / 2) c.requires.exact c.requires.counted) c.loop-i.invariant.all (c.loop-i.invariant.before (c.args.block % 8) (omega arith))).1
