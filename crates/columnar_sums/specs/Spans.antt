-- A search in counts.
use Rattle.std.proofs.Common.{◌≡◌, ℕ, ◌+◌, ◌^◌, ◌<◌, ◌≤◌, List, length}
use Rattle.std.specs.Prelude.{slice_index}
use Rattle.columnar_sums.specs.Counting.{count_before}

-- The candidates for the first chunk with more than `rank` set bits up to its end: chunk `low` or one of the `rest`
-- chunks after it, with `sum` set bits before chunk `low`.
pub record IsSpan (counts : List ℕ) (rank low sum rest : ℕ) : Type 0 where
  pub within : low + rest ≤ length counts
  pub fits : low + rest < 2 ^ 64
  pub before : sum ≡ count_before counts low
  pub below : sum ≤ rank
  pub above : low + rest < length counts → rank < slice_index counts (low + rest)
