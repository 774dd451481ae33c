use Rattle.std.proofs.Common.{◌≡◌, ◌+◌, ◌<◌, ◌≤◌}
use Rattle.std.specs.Prelude.{slice_index}
use Rattle.columnar_sums.specs.Counting.{count_before}
use Rattle.columnar_sums.proofs.rank_select.search.find_in_seven.Given as goal

abbrev pub invariant-loop-i : goal.invariant-loop-i
invariant-loop-i g l =
    record {
      within : l.chunk ≤ l.span.low + l.i;
      below : count_before l.counts l.chunk ≤ l.rank;
      above : l.chunk < l.span.low + l.i → l.rank < slice_index l.counts l.chunk;
      counts : l.tally.counts ≡ l.fn.tally.counts + l.i;
      words : l.tally.words ≡ l.fn.tally.words;
      turns : l.tally.turns ≡ l.fn.tally.turns + l.i;
    }
