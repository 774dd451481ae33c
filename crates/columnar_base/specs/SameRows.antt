-- Columns that are equal if their rows are.
use Rattle.std.proofs.Common.{◌≡◌, ℕ, Bool, List, drop}
use Rattle.columnar_base.specs.Row.{Row, row_eq}
use Rattle.columnar_base.specs.Format.{all_alike}

-- whether the rows are equal, in order
abbrev pub same_rows : List Row → List Row → Bool
same_rows = all_alike row_eq

-- the remaining rows of two lists decide whether the lists are equal
abbrev pub RestDecides : List Row → List Row → ℕ → Type 0
RestDecides rs ss i = same_rows rs ss ≡ same_rows (drop i rs) (drop i ss)
