use Rattle.std.proofs.Common.{◌≡◌, ◌+◌, ◌/◌, ◌^◌, ◌<◌, ◌≤◌}
use Rattle.columnar_bits.specs.Bits.{bit}
use Rattle.columnar_sums.specs.Counting.{ones_below}
use Rattle.columnar_sums.proofs.rank_select.search.place_in_word.Given as goal

abbrev pub invariant-loop-level : goal.invariant-loop-level
invariant-loop-level g l =
    record {
      rest : l.rest ≡ l.word / 2 ^ l.place;
      left : l.left < ones_below (bit l.rest) (2 ^ l.level);
      before : l.left + ones_below (bit l.word) l.place ≡ l.rank;
      high : 3 ≤ l.level;
      level : l.level ≤ 6;
      within : l.place + 2 ^ l.level ≤ 64;
      turns : l.tally.turns + l.level ≡ l.fn.tally.turns + 6;
      counts : l.tally.counts ≡ l.fn.tally.counts;
      words : l.tally.words ≡ l.fn.tally.words;
    }

abbrev pub decreases-loop-level : goal.decreases-loop-level
decreases-loop-level g l = l.level
