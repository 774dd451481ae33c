-- How bounds divide values into lists.
use Rattle.std.specs.Prelude.{ℕ, List, [], ◌∷◌, ◌++◌, length, ◌+◌, ◌≡◌}
use Rattle.columnar_base.specs.Row.{Row}

-- the items of all lists, one list after another
abbrev pub concatenation : List (List Row) → List Row
concatenation [] = []
concatenation (xs ∷ rest) = xs ++ concatenation rest

-- The running lengths plus n: the length of the first list, of the first two together, and so on.
abbrev pub running : ℕ → List (List Row) → List ℕ
running n [] = []
running n (xs ∷ rest) = (n + length xs) ∷ running (n + length xs) rest

-- The bounds divide the values into the lists.
pub record IsCut (bounds : List ℕ) (values : List Row) (lists : List (List Row)) : Type 0 where
  pub whole : concatenation lists ≡ values
  pub ends : running 0 lists ≡ bounds
