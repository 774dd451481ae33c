use Rattle.std.proofs.Common.{◌≡◌, ◌+◌, ◌*◌, ◌≤◌}
use Rattle.std.specs.Vec.{vec_capacity}
use Rattle.columnar_core.specs.WordViews.{bit_words, view_bytes}
use Rattle.columnar_bits.specs.Bits.{bit_in}
use Rattle.columnar_sums.specs.Counting.{ones_below}
use Rattle.columnar_sums.specs.RankChangeLaws.{CountedTo}
use Rattle.columnar_sums.proofs.rank_select.grow.count_on.Given as goal

abbrev pub invariant-loop-chunk : goal.invariant-loop-chunk
invariant-loop-chunk g l =
    record {
      sum : l.sum ≡ ones_below (bit_in (bit_words (view_bytes l.values) (view_bytes l.tail))) (1024 * l.chunk);
      counted : CountedTo (bit_words (view_bytes l.values) (view_bytes l.tail)) l.fn.counts.items l.counts.items l.before l.chunk;
      from : l.before ≤ l.chunk;
      capacity : vec_capacity l.fn.counts ≤ vec_capacity l.counts;
      turns : l.tally.turns + 17 * l.before ≡ l.fn.tally.turns + 17 * l.chunk;
    }

abbrev pub invariant-loop-at : goal.invariant-loop-at
invariant-loop-at g l =
    record {
      sum : l.sum ≡ ones_below (bit_in (bit_words (view_bytes l.values) (view_bytes l.tail))) (64 * l.at);
      turns : l.tally.turns + 17 * l.before ≡ l.fn.tally.turns + l.chunk + l.at + 1;
    }
