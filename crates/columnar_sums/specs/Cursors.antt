-- The state of a cursor.
use Rattle.std.proofs.Common.{◌≡◌, ℕ, ◌*◌, ◌≤◌, List, length}
use Rattle.columnar_core.specs.Format.{slice, both, IsSound}
use Rattle.columnar_core.specs.WordViews.{bit_words}
use Rattle.columnar_bits.specs.BoolColumns.{bits_in}
use Rattle.columnar_sums.specs.Counting.{ones}
use Rattle.columnar_sums.specs.RankColumns.{ranks_format, IsAt}

-- the state of a cursor over the counts c, words a and tail b
pub record CursorStands (c a b : List ℕ) (index rest pos count : ℕ) : Type 0 where
  pub ranked : IsSound ranks_format (both (slice c) (both (slice a) (slice b)))
  pub inside : pos ≤ length (bits_in a b)
  pub floor : 64 * index ≤ pos
  pub at : IsAt (bit_words a b) index rest pos
  pub rank : count ≡ ones (bits_in a b) pos
