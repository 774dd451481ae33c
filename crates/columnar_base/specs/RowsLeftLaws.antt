-- Consequences of the rows that an iterator returns.
use Rattle.std.proofs.Common.{ℕ, List, [], ◌∷◌, ◌≡◌, ◌+◌, length, drop, ◌∙◌, ap}
use Rattle.std.specs.Prelude.{Some, slice_get}
use Rattle.std.proofs.lemmas.List.{drop_more}
use Rattle.std.proofs.lemmas.Option.{slice_get_within, get_or_from_slice_get}
use Rattle.std.proofs.lemmas.Iterator.{YieldsList}
use Rattle.std.proofs.lemmas.Iterator.Consumers.{YieldsList-from_shown}
use Rattle.columnar_base.specs.Row.{Row}
use Rattle.columnar_base.specs.RowsLeft.{GivesRow}

-- item i is the first of the items from index i on
pub drop_next : {A : Type 0} (xs : List A) (i : ℕ) (x : A) → slice_get xs i ≡ Some x → drop i xs ≡ x ∷ drop (i + 1) xs
drop_next xs i x h =
    drop_more xs i x (slice_get_within xs i x h)
    ∙ ap (λ y. y ∷ drop (i + 1) xs) (get_or_from_slice_get xs i x x h)

-- a loop over the rows of a column receives the remaining rows, in order
pub rows_given : {S A : Type 0} (left : S → List Row) (meaning : A → Row) (valid : A → Type 0) (s : S) → YieldsList (GivesRow left meaning valid) meaning s (left s)
rows_given left meaning valid s = YieldsList-from_shown (GivesRow left meaning valid) meaning left (λ a b h. ap length h.0.0) (λ a x b h. h.0) s
