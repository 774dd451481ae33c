-- Slices of a store, by their index.
use Rattle.std.proofs.Common.{◌≡◌, ℕ, zero, suc, ◌+◌, ◌/◌, ◌<◌, ◌≤◌, List, [], ◌∷◌, length, drop, refl, sym, arith}
use Rattle.std.specs.Prelude.{slice_index_or, min}
use Rattle.std.proofs.Math.Seq.{drop-nil}
use Rattle.columnar_base.specs.Row.{Row}
use Rattle.columnar_base.specs.Format.{Format, slice, part_format}
use Rattle.columnar_base.specs.Elements.{elements_rows, first_slice}
use Rattle.columnar_base.specs.ElementLaws.{length-elements}
use Rattle.columnar_core.specs.declared.store.DecodedStore.{DecodedStore}
use Rattle.columnar_core.specs.Store.{slices_in}

-- the slice at `offset`, and those after it
pub drop_at : (ss : List (List ℕ)) (o : ℕ) (bs : List ℕ) → o < length ss → bs ≡ slice_index_or ss o [] → drop o ss ≡ bs ∷ drop (suc o) ss
drop_at [] o bs l h = absurd (omega arith)
drop_at (x ∷ xs) zero bs l h = let e : bs ≡ x = h in rw e refl
drop_at (x ∷ xs) (suc o) bs l h = drop_at xs o bs (omega arith) h

pub first_at : (ss : List (List ℕ)) (o : ℕ) (bs : List ℕ) → o < length ss → bs ≡ slice_index_or ss o [] → first_slice (drop o ss) ≡ slice bs
first_at ss o bs l h = rw (drop_at ss o bs l h) refl

pub length_at : (size : ℕ) (row_of : List ℕ → Row) (store : DecodedStore) (o : ℕ) (bs : List ℕ) → o + 1 ≤ length (slices_in store) → bs ≡ slice_index_or (slices_in store) o [] → length bs / size ≡ length (elements_rows size row_of (first_slice (drop o (slices_in store))))
length_at size row_of store o bs l h = rw (first_at (slices_in store) o bs (omega arith) h) (sym (length-elements size row_of bs))

-- ranges of the rows of equal formats
pub same_part : {a b : Format} → a ≡ b → part_format a ≡ part_format b
same_part p = rw p refl

-- no slices remain from the end on, wherever that is
pub left_from : {A : Type 0} (xs : List A) (i j : ℕ) → j ≡ min i (length xs) → drop j xs ≡ drop i xs
left_from [] i j e = let z : j ≡ 0 = omega arith in rw z (sym (drop-nil i))
left_from (x ∷ xs) zero j e = let z : j ≡ 0 = omega arith in rw z refl
left_from (x ∷ xs) (suc i) j e = let z : j ≡ suc (min i (length xs)) = omega arith in rw z (left_from xs i (min i (length xs)) refl)
