-- Rows beside their numbers.
use Rattle.std.specs.Prelude.{◌≡◌, ℕ, List, length, map, All, slice_get, Some}
use Rattle.std.specs.List.{range_with_len}
use Rattle.columnar_base.specs.Row.{Row}

-- all rows, each beside its number, which rise from 0
pub record IsNumbered {A : Type 0} (meaning : A → Row) (rows : List Row) (pairs : List (A × ℕ)) : Type 0 where
  pub numbers : map (λ p. p.1) pairs ≡ range_with_len 0 (length rows)
  pub named : All (λ p. slice_get rows p.1 ≡ Some (meaning p.0)) pairs
