use Rattle.std.proofs.Common.{◌≡◌, ◌<◌, ◌≤◌, ◌^◌, ◌++◌, take}
use Rattle.columnar_core.specs.Bounds.{numbers, last_or}
use Rattle.columnar_core.specs.Elements.{words_format}
use Rattle.columnar_core.specs.Format.{IsSound, slice}
use Rattle.columnar_core.specs.WordViews.{le_bytes}
use Rattle.columnar_bits.specs.Bits.{bit, truths}
use Rattle.columnar_bits.specs.BoolColumns.{bools_format, owned_content, owned_bits}
use Rattle.columnar_sums.specs.Unary.{runs}
use Rattle.columnar_sums.proofs.unaries.packed.push_runs.Given as goal

abbrev pub invariant-loop-i : goal.invariant-loop-i
invariant-loop-i l =
    record {
      sound : IsSound bools_format (owned_content l.bits);
      bits : owned_bits l.bits ++ truths (bit l.word) l.count ≡ owned_bits l.fn.bits ++ runs 0 (take l.i (numbers (words_format.rows (slice (le_bytes l.offsets.items)))));
      last : l.last ≡ last_or 0 (take l.i (numbers (words_format.rows (slice (le_bytes l.offsets.items)))));
      few : l.count ≤ 64;
      below : l.word < 2 ^ l.count;
    }
