use Rattle.std.proofs.Common.{drop, Some, ◌≤◌}
use Rattle.std.specs.Prelude.{vec_capacity}
use Rattle.std.specs.List.{flat_map}
use Rattle.columnar_core.specs.Format.{slices_of}
use Rattle.columnar_core.specs.Words.{slice_words}
use Rattle.columnar_core.specs.Sent.{WentOut}
use Rattle.columnar_bytes.proofs.indexed.encoding.append_slices.Given as goal

abbrev pub invariant-loop-i : goal.invariant-loop-i
invariant-loop-i g l =
    let slices = slices_of (g.S.Column.content l.item) in
    record {
      sent : WentOut (Some l.fn.store.items) (Some l.store.items) (flat_map slice_words (drop l.i slices)) (flat_map slice_words slices);
      capacity : vec_capacity l.fn.store ≤ vec_capacity l.store;
    }
