use Rattle.std.proofs.Common.{◌≡◌, ◌+◌, ◌*◌, ◌≤◌, length, take}
use Rattle.columnar_bits.specs.Bits.{bit_in}
use Rattle.columnar_sums.specs.Counting.{ones_below}
use Rattle.columnar_base.specs.Digits.{digits}
use Rattle.columnar_sums.proofs.rank_select.search.select_in.Given as goal

abbrev pub invariant-loop-at : goal.invariant-loop-at
invariant-loop-at g l =
    record {
      sum : l.sum ≡ ones_below (bit_in l.words) (64 * l.at);
      below : l.sum ≤ l.rank;
      counts : l.tally.counts ≤ l.fn.tally.counts + (digits (length l.counts) + 1);
      words : length l.tally.words + 16 * l.chunk ≡ length l.fn.tally.words + l.at;
      turns : l.tally.turns + 16 * l.chunk ≤ l.fn.tally.turns + digits (length l.counts) + l.at;
      kept : take (length l.fn.tally.words) l.tally.words ≡ l.fn.tally.words;
    }
