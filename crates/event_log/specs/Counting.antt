-- Counts of rows by level.
use Rattle.std.specs.Prelude.{ℕ, List, ◌≡◌, ◌%◌, ◌^◌, ◌==◌, if◌then◌else◌}
use Rattle.std.specs.List.{sum_by}
use Rattle.columnar_core.specs.Row.{Row, first_of, second_of, number_of}
use Rattle.event_log.specs.declared.counts.Counts.{Counts}

-- the number of a row's level, the third of its four fields
abbrev pub row_level : Row → ℕ
row_level row = number_of (first_of (second_of (second_of row)))

-- 1 if the row has this level, else 0
abbrev pub at_level : ℕ → Row → ℕ
at_level level row = if row_level row == level then 1 else 0

-- the number of rows with a level; it wraps at 2^64
abbrev pub rows_at_level : ℕ → List Row → ℕ
rows_at_level level rows = sum_by (at_level level) rows % 2 ^ 64

-- the numbers of rows with each level
pub record AreCounted (rows : List Row) (counts : Counts) : Type 0 where
  pub debug : counts.debug ≡ rows_at_level 0 rows
  pub info : counts.info ≡ rows_at_level 1 rows
  pub warn : counts.warn ≡ rows_at_level 2 rows
  pub error : counts.error ≡ rows_at_level 3 rows
