-- What follows of the rows that are picked.
use Rattle.std.proofs.Common.{◌≡◌, ℕ, zero, suc, ◌+◌, ◌-◌, ◌<◌, ◌≤◌, Bool, true, false, List, [], ◌∷◌, ◌++◌, length, take, drop, refl, sym, ◌∙◌, ap, arith}
use Rattle.std.specs.Prelude.{slice_get, Some, slice_index_or}
use Rattle.std.proofs.lemmas.List.{drop_all}
use Rattle.columnar_base.specs.Row.{Row, truth, unit}
use Rattle.columnar_base.specs.RowsLeftLaws.{drop_next}
use Rattle.columnar_base.specs.ChangeLaws.{slice_get_some}
use Rattle.columnar_operators.specs.Picks.{row_at, rows_at, chosen}

-- what is there
pub get_at : {A : Type 0} (xs : List A) (i : ℕ) (d : A) → i < length xs → slice_get xs i ≡ Some (slice_index_or xs i d)
get_at [] i d l = absurd (omega arith)
get_at (x ∷ xs) zero d l = refl
get_at (x ∷ xs) (suc i) d l = get_at xs i d (omega arith)

-- the row that is there
pub get_row_at : (rows : List Row) (i : ℕ) → i < length rows → slice_get rows i ≡ Some (row_at rows i)
get_row_at rows i l = get_at rows i unit l

-- the next number names the next row
pub rows_at_next : (rows : List Row) (numbers : List ℕ) (k d : ℕ) → k < length numbers → rows_at rows (drop k numbers) ≡ row_at rows (slice_index_or numbers k d) ∷ rows_at rows (drop (k + 1) numbers)
rows_at_next rows numbers k d l = ap (rows_at rows) (drop_next numbers k (slice_index_or numbers k d) (get_at numbers k d l))

-- no number is left
pub rows_at_end : (rows : List Row) (numbers : List ℕ) (k : ℕ) → length numbers ≤ k → rows_at rows (drop k numbers) ≡ []
rows_at_end rows numbers k l = ap (rows_at rows) (drop_all k numbers l)

-- a row beside a true is chosen
pub chosen_next : (rows bits : List Row) (i : ℕ) (r : Row) → slice_get rows i ≡ Some r → slice_get bits i ≡ Some (truth true) → chosen (drop i rows) (drop i bits) ≡ r ∷ chosen (drop (i + 1) rows) (drop (i + 1) bits)
chosen_next rows bits i r h k = rw (drop_next rows i r h, drop_next bits i (truth true) k) refl

-- a row beside a false is not
pub chosen_not : (rows bits : List Row) (i : ℕ) (r : Row) → slice_get rows i ≡ Some r → slice_get bits i ≡ Some (truth false) → chosen (drop i rows) (drop i bits) ≡ chosen (drop (i + 1) rows) (drop (i + 1) bits)
chosen_not rows bits i r h k = rw (drop_next rows i r h, drop_next bits i (truth false) k) refl

-- no row is left
pub chosen_end : (rows bits : List Row) (i : ℕ) → length rows ≤ i → chosen (drop i rows) (drop i bits) ≡ []
chosen_end rows bits i l = rw (drop_all i rows l) refl
