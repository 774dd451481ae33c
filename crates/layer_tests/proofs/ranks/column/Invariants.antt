use Rattle.std.proofs.Common.{◌≡◌, length}
use Rattle.columnar_core.specs.Format.{IsSound}
use Rattle.columnar_sums.specs.RankColumns.{ranks_format, owned_ranks, ranked_bits}
use Rattle.layer_tests.proofs.ranks.column.Given as goal

abbrev pub invariant-loop-i : goal.invariant-loop-i
invariant-loop-i l = record {
  sound : IsSound ranks_format (owned_ranks l.column);
  len : length (ranked_bits l.column) ≡ l.i-counter;
}
