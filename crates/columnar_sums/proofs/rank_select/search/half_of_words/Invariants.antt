use Rattle.std.proofs.Common.{◌≡◌, ◌+◌, ◌*◌, length, take}
use Rattle.columnar_bits.specs.Bits.{bit_in}
use Rattle.columnar_sums.specs.Counting.{ones_below}
use Rattle.columnar_sums.proofs.rank_select.search.half_of_words.Given as goal

abbrev pub invariant-loop-i : goal.invariant-loop-i
invariant-loop-i g l =
    record {
      sum : l.sum ≡ ones_below (bit_in l.words) (64 * (l.span.low + l.i));
      counts : l.tally.counts ≡ l.fn.tally.counts;
      words : length l.tally.words ≡ length l.fn.tally.words + l.i;
      turns : l.tally.turns ≡ l.fn.tally.turns + l.i;
      kept : take (length l.fn.tally.words) l.tally.words ≡ l.fn.tally.words;
    }
