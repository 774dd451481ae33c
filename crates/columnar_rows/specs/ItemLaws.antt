-- The rows of a list of items.
use Rattle.std.proofs.Common.{◌≡◌, ℕ, zero, suc, ◌<◌, false, List, [], ◌∷◌, length, map, refl, sym, ◌∙◌, ap, arith}
use Rattle.std.specs.Prelude.{Some, slice_get, slice_index_or, min}
use Rattle.std.specs.Ordering.{nat_cmp}
use Rattle.std.specs.declared.cmp.Ordering.{Ordering}
use Rattle.std.proofs.lemmas.List.{length-map}
use Rattle.columnar_base.specs.Row.{Row}
use Rattle.columnar_base.specs.SameRows.{same_rows}
use Rattle.columnar_base.specs.SameRowsLaws.{other_length}
use Rattle.columnar_rows.specs.RowOrder.{rows_cmp}
use Rattle.columnar_rows.specs.RowOrderLaws.{RestOrders, order_end}

module _ {T : Type 0} (meaning : T → Row) where
  pub item_row : (xs : List T) (i : ℕ) (x : T) → i < length xs → x ≡ slice_index_or xs i x → slice_get (map meaning xs) i ≡ Some (meaning x)
  item_row [] i x l e = absurd (omega arith)
  item_row (y ∷ xs) zero x l e = ap (λ z. Some (meaning z)) (sym e)
  item_row (y ∷ xs) (suc i) x l e = item_row xs i x (omega arith) e

  -- lists of different lengths are unequal
  pub other_items : (xs ys : List T) → (length xs ≡ length ys → ⊥) → false ≡ same_rows (map meaning xs) (map meaning ys)
  other_items xs ys h = other_length (map meaning xs) (map meaning ys) (λ e. h (sym (length-map xs meaning) ∙ e ∙ length-map ys meaning))

  -- if no pair remains, the lengths decide
  pub items_end : (xs ys : List T) (i : ℕ) (o : Ordering) → i ≡ min (length xs) (length ys) → o ≡ nat_cmp (length xs) (length ys) → RestOrders (map meaning xs) (map meaning ys) i → o ≡ rows_cmp (map meaning xs) (map meaning ys)
  items_end xs ys i o m e d = order_end (map meaning xs) (map meaning ys) i o (rw (length-map, length-map) m) (rw (length-map, length-map) e) d
