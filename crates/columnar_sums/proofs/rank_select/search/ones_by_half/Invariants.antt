use Rattle.std.proofs.Common.{◌≡◌, ℕ, ◌+◌, ◌*◌, ◌<◌, ◌≤◌, length, take, slice_index}
use Rattle.columnar_bits.specs.Bits.{bit_in}
use Rattle.columnar_sums.specs.Counting.{ones_below}
use Rattle.columnar_sums.proofs.rank_select.search.ones_by_half.Given as goal

abbrev pub invariant-loop-i : goal.invariant-loop-i
invariant-loop-i g l =
    record {
      all : ones_below (bit_in l.words) (64 * (l.first + l.i)) ≡ ones_below (bit_in l.words) (64 * l.first) + l.all;
      before : (j : ℕ) → j < l.i → ones_below (bit_in l.words) (64 * (l.first + j)) ≡ ones_below (bit_in l.words) (64 * l.first) + slice_index l.before j;
      eight : length l.before ≡ 8;
      few : l.all ≤ 64 * l.i;
      counts : l.tally.counts ≡ l.fn.tally.counts;
      words : length l.tally.words ≡ length l.fn.tally.words + l.i;
      turns : l.tally.turns ≡ l.fn.tally.turns + l.i;
      kept : take (length l.fn.tally.words) l.tally.words ≡ l.fn.tally.words;
    }
