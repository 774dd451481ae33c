use Rattle.std.proofs.Common.{◌≡◌, length}
use Rattle.columnar_core.specs.Format.{IsSound}
use Rattle.columnar_bits.specs.BoolColumns.{bools_format, owned_content, owned_bits}
use Rattle.value_tests.proofs.bools.column.Given as goal

abbrev pub invariant-loop-i : goal.invariant-loop-i
invariant-loop-i l = record {
  sound : IsSound bools_format (owned_content l.column);
  len : length (owned_bits l.column) ≡ l.i;
}
