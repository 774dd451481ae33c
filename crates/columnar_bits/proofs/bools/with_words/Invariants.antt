use Rattle.std.proofs.Common.{◌≡◌, ◌+◌, ◌-◌, ◌*◌, ◌≤◌, ◌++◌}
use Rattle.std.specs.Prelude.{slice_range, vec_len, vec_capacity}
use Rattle.columnar_core.specs.Format.{IsSound}
use Rattle.columnar_core.specs.WordViews.{view_bytes}
use Rattle.columnar_bits.specs.BoolColumns.{bools_format, bits_in, owned_content, owned_bits}
use Rattle.columnar_bits.proofs.bools.with_words.Given as goal

abbrev pub invariant-loop-i : goal.invariant-loop-i
invariant-loop-i g l =
    record {
      bits : owned_bits l.column ≡ owned_bits l.initial.column ++ slice_range (bits_in (view_bytes l.values) (view_bytes l.tail)) l.start (l.start + 64 * l.i);
      sound : IsSound bools_format (owned_content l.column);
      room : vec_len l.column.values + (l.count - l.i) ≤ vec_capacity l.column.values;
      capacity : vec_capacity l.column.values ≡ vec_capacity l.initial.column.values;
      turns : l.tally.turns ≤ l.initial.tally.turns + l.i;
    }
