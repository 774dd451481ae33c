use Rattle.std.proofs.Common.{◌≡◌, ◌+◌, ◌-◌, ◌≤◌, ◌++◌, length}
use Rattle.std.specs.List.{range_with_len}
use Rattle.columnar_sums.specs.RankColumns.{IsAt}
use Rattle.columnar_sums.proofs.rank_select.cursor.next_in.Given as goal

abbrev pub invariant-loop-place : goal.invariant-loop-place
invariant-loop-place g l =
    record {
      at : IsAt l.words l.place.index l.place.rest l.place.pos;
      pos : l.place.pos ≡ l.fn.place.pos;
      forward : l.fn.place.index ≤ l.place.index;
      loads : l.tally.words ≡ l.fn.tally.words ++ range_with_len (l.fn.place.index + 1) (l.place.index - l.fn.place.index);
      counts : l.tally.counts ≡ l.fn.tally.counts;
      turns : l.tally.turns + l.fn.place.index ≡ l.fn.tally.turns + l.place.index;
    }

abbrev pub decreases-loop-place : goal.decreases-loop-place
decreases-loop-place g l = length l.words - l.place.index
