-- The rows that numbers name, and those that truth values choose.
use Rattle.std.specs.Prelude.{◌≡◌, ℕ, ◌<◌, ◌≤◌, Bool, false, List, [], ◌∷◌, map, cond, slice_index_or, slice_get, Some}
use Rattle.std.specs.List.{AllWithin}
use Rattle.columnar_base.specs.Row.{Row, truth, unit}

-- row i
abbrev pub row_at : List Row → ℕ → Row
row_at rows i = slice_index_or rows i unit

-- the rows of the numbers, in the order of the numbers
abbrev pub rows_at : List Row → List ℕ → List Row
rows_at rows numbers = map (row_at rows) numbers

-- n is the first of the numbers that is not below `count`
pub record IsFirstPast (count : ℕ) (numbers : List ℕ) (n : ℕ) : Type 0 where
  pub at : ℕ
  pub there : slice_get numbers at ≡ Some n
  pub past : count ≤ n
  pub before : AllWithin (λ i. i < count) numbers 0 at

-- is the row the truth value true
abbrev pub is_true_row : Row → Bool
is_true_row (truth b) = b
is_true_row r = false

-- the rows beside a true, in their order
abbrev pub chosen : List Row → List Row → List Row
chosen (r ∷ rows) (b ∷ bits) = cond (is_true_row b) (r ∷ chosen rows bits) (chosen rows bits)
chosen rows bits = []
