use Rattle.std.proofs.Common.{◌≡◌, ℕ, ◌+◌, ◌*◌, ◌/◌, ◌∙◌, ap, length, take, arith}
use Rattle.std.proofs.lemmas.List.{take_all}
use Rattle.columnar_bits.specs.Bits.{bit_in}
use Rattle.columnar_sums.specs.Counting.{ones_below}
use Rattle.columnar_sums.specs.CountLaws.{count_before_is, ones_word_whole, ones_below_le}
use Rattle.columnar_sums.proofs.rank_select.search.ones_by_words.Goals as goal

pub loop-at-init : goal.loop-at-init
loop-at-init g c =
    let chunk : ℕ = c.args.block / 16 in
    record {
      sum = c.ones_before-sum.ensures.value ∙ count_before_is _ _ chunk c.requires.exact (omega arith) ∙ ap (ones_below (bit_in c.args.words.now)) (let e : 1024 * chunk ≡ 64 * (16 * chunk) = omega arith in e);
      counts = omega arith;
      words = omega (arith, ap length c.ones_before-sum.ensures.words);
      turns = omega (arith, c.ones_before-sum.ensures.turns);
      kept = ap (take (length c.args.tally.now.words)) c.ones_before-sum.ensures.words ∙ take_all _ _ (omega arith);
    }

pub overflow_add-sum : goal.overflow_add-sum
overflow_add-sum g c =
    let e = ones_word_whole c.args.words.now c.loop-at.at c.read_whole.result c.read_whole.ensures.value c.read_whole.type_inv in
    let l = ones_below_le (bit_in c.args.words.now) (64 * (c.loop-at.at + 1)) in
    omega arith
