-- Consequences of equal rows of two columns.
use Rattle.std.proofs.Common.{◌≡◌, ℕ, zero, suc, ◌+◌, ◌≤◌, Bool, true, false, ◌&&◌, List, [], ◌∷◌, length, drop, refl, sym, ◌∙◌, ap, arith}
use Rattle.std.specs.Prelude.{slice_get, Some}
use Rattle.std.proofs.lemmas.List.{drop_all}
use Rattle.std.specs.Cmp.{IsPartialEquivalence}
use Rattle.columnar_base.specs.Row.{Row, row_eq}
use Rattle.columnar_base.specs.AlikeLaws.{row_eq_same, alike_back, alike_on, alike_length}
use Rattle.columnar_base.specs.SameRows.{same_rows, RestDecides}

both_ways : (a b : Bool) → (a ≡ true → b ≡ true) → (b ≡ true → a ≡ true) → a ≡ b
both_ways true true p q = refl
both_ways true false p q = sym (p refl)
both_ways false true p q = q refl
both_ways false false p q = refl

pub same_rows_law : {V : Type 0} (rows : V → List Row) → IsPartialEquivalence (λ v w. same_rows (rows v) (rows w))
same_rows_law rows = record {
  symm = λ v w. both_ways (same_rows (rows v) (rows w)) (same_rows (rows w) (rows v)) (alike_back row_eq row_eq_same (rows v) (rows w)) (alike_back row_eq row_eq_same (rows w) (rows v));
  trans = λ u v w p q. alike_on row_eq row_eq_same (rows u) (rows v) (rows w) p q;
}

drop_get : {A : Type 0} (xs : List A) (i : ℕ) (x : A) → slice_get xs i ≡ Some x → drop i xs ≡ x ∷ drop (i + 1) xs
drop_get [] i x e = cc
drop_get (y ∷ xs) zero x e = let q : y ≡ x = cc in ap (λ t. t ∷ xs) q
drop_get (y ∷ xs) (suc i) x e = let z : suc i + 1 ≡ suc (i + 1) = omega arith in rw z (drop_get xs i x e)

rest_step : (rs ss : List Row) (i : ℕ) (r s : Row) → slice_get rs i ≡ Some r → slice_get ss i ≡ Some s → RestDecides rs ss i → same_rows rs ss ≡ (row_eq r s && same_rows (drop (i + 1) rs) (drop (i + 1) ss))
rest_step rs ss i r s p q d = d ∙ rw (drop_get rs i r p, drop_get ss i s q) refl

pub rest_more : (rs ss : List Row) (i : ℕ) (r s : Row) → slice_get rs i ≡ Some r → slice_get ss i ≡ Some s → true ≡ row_eq r s → RestDecides rs ss i → RestDecides rs ss (i + 1)
rest_more rs ss i r s p q h d = rest_step rs ss i r s p q d ∙ rw (← h) refl

pub rest_differs : (rs ss : List Row) (i : ℕ) (r s : Row) → slice_get rs i ≡ Some r → slice_get ss i ≡ Some s → false ≡ row_eq r s → RestDecides rs ss i → false ≡ same_rows rs ss
rest_differs rs ss i r s p q h d = sym (rest_step rs ss i r s p q d ∙ rw (← h) refl)

pub rest_none : (rs ss : List Row) (i : ℕ) → length rs ≤ i → length ss ≤ i → RestDecides rs ss i → true ≡ same_rows rs ss
rest_none rs ss i l m d = sym (d ∙ rw (drop_all i rs l, drop_all i ss m) refl)

not_true : (b : Bool) → (b ≡ true → ⊥) → b ≡ false
not_true true h = absurd (h refl)
not_true false h = refl

pub other_length : (rs ss : List Row) → (length rs ≡ length ss → ⊥) → false ≡ same_rows rs ss
other_length rs ss h = sym (not_true (same_rows rs ss) (λ e. h (alike_length row_eq rs ss e)))
