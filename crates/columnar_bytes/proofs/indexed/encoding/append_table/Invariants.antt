use Rattle.std.proofs.Common.{◌≡◌, ◌+◌, ◌*◌, ◌%◌, ◌≤◌, length, drop, Some}
use Rattle.std.specs.Prelude.{vec_capacity}
use Rattle.std.specs.List.{flat_map}
use Rattle.columnar_core.specs.Format.{slices_of}
use Rattle.columnar_core.specs.Words.{slice_ends, table_words, slice_words, words}
use Rattle.columnar_core.specs.Sent.{WentOut}
use Rattle.columnar_bytes.proofs.indexed.encoding.append_table.Given as goal

abbrev pub invariant-loop-i : goal.invariant-loop-i
invariant-loop-i g l =
    let slices = slices_of (g.S.Column.content l.item) in
    record {
      sent : WentOut (Some l.fn.store.items) (Some l.store.items) (slice_ends l.start (drop l.i slices)) (table_words slices);
      capacity : vec_capacity l.fn.store ≤ vec_capacity l.store;
      left : l.start + 8 * length (flat_map slice_words (drop l.i slices)) ≡ 8 * length (words slices);
      even : l.start % 8 ≡ 0;
    }
