use Rattle.std.proofs.Common.{◌≡◌, ◌+◌, ◌*◌, ◌%◌, length, drop}
use Rattle.columnar_core.specs.Format.{slices_of}
use Rattle.std.specs.List.{flat_map}
use Rattle.columnar_core.specs.Bytes.{le_bytes}
use Rattle.columnar_core.specs.Words.{slice_ends, table_words, slice_words, words}
use Rattle.columnar_core.specs.Sent.{WentOut}
use Rattle.columnar_bytes.proofs.indexed.writing.write_table.Given as goal

abbrev pub invariant-loop-i : goal.invariant-loop-i
invariant-loop-i g l =
    let slices = slices_of (g.S.Column.content l.item) in
    record {
      sent : WentOut (g.W.WriteBytes.contents l.fn.writer) (g.W.WriteBytes.contents l.writer) (le_bytes (slice_ends l.start (drop l.i slices))) (le_bytes (table_words slices));
      room : l.start + 8 * length (flat_map slice_words (drop l.i slices)) ≡ 8 * length (words slices);
      even : l.start % 8 ≡ 0;
    }
