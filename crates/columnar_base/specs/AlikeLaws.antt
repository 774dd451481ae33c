use Rattle.std.proofs.Common.{◌≡◌, ℕ, zero, suc, Bool, true, ◌&&◌, List, [], ◌∷◌, ◌++◌, length, take, drop, refl, sym, ◌∙◌, ap}
use Rattle.std.proofs.lemmas.Bool.{and_parts, and_from}
use Rattle.columnar_base.specs.Row.{Row, row_eq}
use Rattle.columnar_base.specs.RowLaws.{row_eq-refl, row_eq-is, is-row_eq}
use Rattle.columnar_base.specs.Format.{IsSame, IsExact, all_alike}

pub all_alike-append : (same : Row → Row → Bool) (rs ss us vs : List Row) → all_alike same rs ss ≡ true → all_alike same us vs ≡ true → all_alike same (rs ++ us) (ss ++ vs) ≡ true
all_alike-append same [] [] us vs p q = q
all_alike-append same [] (s ∷ ss) us vs p q = cc
all_alike-append same (r ∷ rs) [] us vs p q = cc
all_alike-append same (r ∷ rs) (s ∷ ss) us vs p q =
    let h = and_parts (same r s) (all_alike same rs ss) p in
    and_from _ _ h.0 (all_alike-append same rs ss us vs h.1 q)

pub alike_length : (same : Row → Row → Bool) (rs ss : List Row) → all_alike same rs ss ≡ true → length rs ≡ length ss
alike_length same [] [] h = refl
alike_length same [] (s ∷ ss) h = cc
alike_length same (r ∷ rs) [] h = cc
alike_length same (r ∷ rs) (s ∷ ss) h = ap suc (alike_length same rs ss (and_parts (same r s) (all_alike same rs ss) h).1)

pub alike_all : (same : Row → Row → Bool) → IsSame same → (rs : List Row) → all_alike same rs rs ≡ true
alike_all same e [] = refl
alike_all same e (r ∷ rs) = and_from _ _ (e.reflexive r) (alike_all same e rs)

pub alike_back : (same : Row → Row → Bool) → IsSame same → (rs ss : List Row) → all_alike same rs ss ≡ true → all_alike same ss rs ≡ true
alike_back same e [] [] h = refl
alike_back same e [] (s ∷ ss) h = cc
alike_back same e (r ∷ rs) [] h = cc
alike_back same e (r ∷ rs) (s ∷ ss) h =
    let p = and_parts (same r s) (all_alike same rs ss) h in
    and_from _ _ (e.symmetric r s p.0) (alike_back same e rs ss p.1)

pub alike_on : (same : Row → Row → Bool) → IsSame same → (rs ss ts : List Row) → all_alike same rs ss ≡ true → all_alike same ss ts ≡ true → all_alike same rs ts ≡ true
alike_on same e [] [] [] h k = refl
alike_on same e [] [] (t ∷ ts) h k = cc
alike_on same e [] (s ∷ ss) ts h k = cc
alike_on same e (r ∷ rs) [] ts h k = cc
alike_on same e (r ∷ rs) (s ∷ ss) [] h k = cc
alike_on same e (r ∷ rs) (s ∷ ss) (t ∷ ts) h k =
    let p = and_parts (same r s) (all_alike same rs ss) h in
    let q = and_parts (same s t) (all_alike same ss ts) k in
    and_from _ _ (e.transitive r s t p.0 q.0) (alike_on same e rs ss ts p.1 q.1)

pub alike_is : (same : Row → Row → Bool) → IsExact same → (rs ss : List Row) → all_alike same rs ss ≡ true → rs ≡ ss
alike_is same e [] [] h = refl
alike_is same e [] (s ∷ ss) h = cc
alike_is same e (r ∷ rs) [] h = cc
alike_is same e (r ∷ rs) (s ∷ ss) h =
    let p = and_parts (same r s) (all_alike same rs ss) h in
    let a : r ≡ s = e.exact r s p.0 in
    let b = alike_is same e rs ss p.1 in
    rw (a, b) refl

-- equivalences from equivalences
pub row_eq_same : IsSame row_eq
row_eq_same = record {
  reflexive = row_eq-refl;
  symmetric = λ r s h. is-row_eq s r (sym (row_eq-is r s h));
  transitive = λ r s t h k. is-row_eq r t (row_eq-is r s h ∙ row_eq-is s t k);
}

pub row_eq_exact : IsExact row_eq
row_eq_exact = record { exact = row_eq-is }

pub same_pulled : (same : Row → Row → Bool) (f : Row → Row) → IsSame same → IsSame (λ r s. same (f r) (f s))
same_pulled same f e = record {
  reflexive = λ r. e.reflexive (f r);
  symmetric = λ r s h. e.symmetric (f r) (f s) h;
  transitive = λ r s t h k. e.transitive (f r) (f s) (f t) h k;
}

pub same_both : (a b : Row → Row → Bool) → IsSame a → IsSame b → IsSame (λ r s. a r s && b r s)
same_both a b p q = record {
  reflexive = λ r. and_from _ _ (p.reflexive r) (q.reflexive r);
  symmetric = λ r s h. let u = and_parts (a r s) (b r s) h in and_from _ _ (p.symmetric r s u.0) (q.symmetric r s u.1);
  transitive = λ r s t h k.
      let u = and_parts (a r s) (b r s) h in
      let v = and_parts (a s t) (b s t) k in
      and_from _ _ (p.transitive r s t u.0 v.0) (q.transitive r s t u.1 v.1);
}

pub alike_take : (same : Row → Row → Bool) (n : ℕ) (rs ss : List Row) → all_alike same rs ss ≡ true → all_alike same (take n rs) (take n ss) ≡ true
alike_take same zero rs ss h = refl
alike_take same (suc n) [] [] h = refl
alike_take same (suc n) [] (s ∷ ss) h = cc
alike_take same (suc n) (r ∷ rs) [] h = cc
alike_take same (suc n) (r ∷ rs) (s ∷ ss) h = let p = and_parts (same r s) (all_alike same rs ss) h in and_from _ _ p.0 (alike_take same n rs ss p.1)

pub alike_drop : (same : Row → Row → Bool) (n : ℕ) (rs ss : List Row) → all_alike same rs ss ≡ true → all_alike same (drop n rs) (drop n ss) ≡ true
alike_drop same zero rs ss h = h
alike_drop same (suc n) [] [] h = refl
alike_drop same (suc n) [] (s ∷ ss) h = cc
alike_drop same (suc n) (r ∷ rs) [] h = cc
alike_drop same (suc n) (r ∷ rs) (s ∷ ss) h = alike_drop same n rs ss (and_parts (same r s) (all_alike same rs ss) h).1
