use Rattle.std.proofs.Common.{drop, Some, ◌≡◌, ◌≤◌, ◌/◌, ◌+◌, ◌-◌, length}
use Rattle.std.specs.Prelude.{vec_capacity}
use Rattle.columnar_core.specs.Words.{slice_words}
use Rattle.columnar_core.specs.Slices.{bytes_in}
use Rattle.columnar_core.specs.Sent.{WentOut}
use Rattle.columnar_bytes.proofs.indexed.encoding.append_each.Given as goal

abbrev pub invariant-loop-at : goal.invariant-loop-at
invariant-loop-at l = record {
  within : l.at ≤ (length (bytes_in l.slice) + 7) / 8;
  long : length l.block ≡ 128;
  sent : WentOut (Some l.fn.store.items) (Some l.store.items) (drop l.at (slice_words (bytes_in l.slice))) (slice_words (bytes_in l.slice));
  capacity : vec_capacity l.fn.store ≤ vec_capacity l.store;
}

abbrev pub decreases-loop-at : goal.decreases-loop-at
decreases-loop-at l = (length (bytes_in l.slice) + 7) / 8 - l.at
