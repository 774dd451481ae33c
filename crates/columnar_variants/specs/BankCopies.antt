-- Ranges of values, one for each variant.
use Rattle.std.specs.Prelude.{ℕ, List, ◌-◌, take, drop}
use Rattle.columnar_core.specs.Row.{Row}

-- for each variant the values from number `from` up to number `to`
abbrev pub ranges : (ℕ → List Row) → (ℕ → ℕ) → (ℕ → ℕ) → ℕ → List Row
ranges table from to v = take (to v - from v) (drop (from v) (table v))
