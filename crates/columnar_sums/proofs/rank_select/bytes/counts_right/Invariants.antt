use Rattle.std.proofs.Common.{◌≡◌, ◌+◌, ◌*◌}
use Rattle.columnar_core.specs.WordViews.{bit_words, view_bytes, view_words}
use Rattle.columnar_bits.specs.Bits.{bit_in}
use Rattle.columnar_sums.specs.Counting.{ones_below}
use Rattle.columnar_sums.specs.RankByteLaws.{AreRight}
use Rattle.columnar_sums.proofs.rank_select.bytes.counts_right.Given as goal

abbrev pub invariant-loop-chunk : goal.invariant-loop-chunk
invariant-loop-chunk g l =
    record {
      sum : l.sum ≡ ones_below (bit_in (bit_words (view_bytes l.values) (view_bytes l.tail))) (1024 * l.chunk);
      right : AreRight (bit_words (view_bytes l.values) (view_bytes l.tail)) (view_words l.counts) l.chunk;
      turns : l.tally.turns ≡ l.fn.tally.turns + 17 * l.chunk;
    }

abbrev pub invariant-loop-at : goal.invariant-loop-at
invariant-loop-at g l =
    record {
      sum : l.sum ≡ ones_below (bit_in (bit_words (view_bytes l.values) (view_bytes l.tail))) (64 * l.at);
      turns : l.tally.turns ≡ l.fn.tally.turns + l.chunk + l.at + 1;
    }
