-- Runs of one variant.
use Rattle.std.proofs.Common.{◌≡◌, ℕ, zero, suc, ◌+◌, ◌-◌, ◌<◌, ◌≤◌, ◌^◌, true, false, List, [], ◌∷◌, ◌++◌, length, take, drop, replicate, refl, sym, ◌∙◌, ap, arith, ⊎_elim, length-append}
use Rattle.std.specs.Prelude.{Some, None, nat_lt, slice_set}
use Rattle.std.proofs.lemmas.Bool.{cases_eq, cases_Bool, cond-true, cond-false, lt-ltb}
use Rattle.std.proofs.lemmas.List.{replicate-append-replicate, take-replicate, drop-replicate}
use Rattle.columnar_core.specs.Row.{Row}
use Rattle.columnar_core.specs.Format.{IsSound, Content, too_many, refuses_more}
use Rattle.columnar_sums.specs.Discriminants.{discriminant_format, owned_forms, variants_of, times, is_mixed, sole}
use Rattle.columnar_sums.specs.DiscriminantLaws.{times-append, times_all, times_one, times_absent, same_all, same_replicate, forms_parts}
use Rattle.columnar_sums.specs.FormLaws.{two_words_of, holds_counted, mixed_where}
use Rattle.columnar_variants.specs.Variants.{are_below}
use Rattle.columnar_variants.specs.VariantListLaws.{below_get}

-- no row of another variant
pub alone_from : (v : ℕ) (vs : List ℕ) → times v vs ≡ length vs → is_mixed vs ≡ false
alone_from v vs h = rw (times_all v vs h) (same_replicate v (length vs))

-- one more of the variant of all rows
pub times_pushed : (v : ℕ) (vs us : List ℕ) → times v vs ≡ length vs → us ≡ vs ++ v ∷ [] → times v us ≡ length us
times_pushed v vs us h e =
    let a = times-append v vs (v ∷ []) in
    let b = times_one v [] in
    let c = length-append vs (v ∷ []) in
    rw e (omega (arith, a, b, c, h))

-- a run after a run of the same variant
pub run_joined : (v m n : ℕ) (vs : List ℕ) → times v vs ≡ length vs → m ≡ length vs → replicate (m + n) v ≡ vs ++ replicate n v
run_joined v m n vs h e = rw e (sym (replicate-append-replicate (length vs) n v) ∙ ap (λ ws. ws ++ replicate n v) (sym (times_all v vs h)))

-- all of a variant are those of a run
pub of_run : (v w n : ℕ) (vs : List ℕ) → vs ≡ replicate n w → 0 < length vs → times v vs ≡ length vs → w ≡ v
of_run v w n vs e l h = ⊎_elim (λ (q : v ≡ w). sym q)
    (λ (o : v ≡ w → ⊥). let a : times v vs ≡ 0 = ap (times v) e ∙ times_absent v w n o in absurd (omega (arith, a, h, l)))
    (cases_eq v w)

-- the number of rows was set, if all have one variant
pub rows_set : (vs os : List ℕ) (n : ℕ) → IsSound discriminant_format (owned_forms vs os) → 0 < length (variants_of (owned_forms vs os)) → is_mixed (variants_of (owned_forms vs os)) ≡ false → 1 ≤ n → n < 2 ^ 64 → (length os ≡ 2) × (IsSound discriminant_format (owned_forms vs (slice_set os 1 n)) × ((v : ℕ) → times v (variants_of (owned_forms vs os)) ≡ length (variants_of (owned_forms vs os)) → variants_of (owned_forms vs (slice_set os 1 n)) ≡ replicate n v))
rows_set vs os n s l m p q =
    let z : length vs ≡ 0 = none_kept (length vs) (mixed_where (forms_parts s) ∙ m) in
    let t = two_words_of s z l in
    let h = holds_counted os n t.two p q t.least t.most in
    let f : vs ≡ [] = t.none in
    (t.two, (rw f h.sound, λ v k. rw f (h.variants ∙ ap (λ w. replicate n w) (of_run v _ _ (variants_of (owned_forms vs os)) t.all l k))))
  where
    none_kept : (n : ℕ) → nat_lt 0 n ≡ false → n ≡ 0
    none_kept zero h = refl
    none_kept (suc n) h = let e = lt-ltb 0 (suc n) (omega arith) in cc

-- too many rows
pub length_cause : (c : Content) (n : ℕ) (rs : List Row) → length rs ≡ n → 2 ^ 64 - 1 < length (discriminant_format.rows c) + n → refuses_more discriminant_format too_many c rs ≡ true
length_cause c n rs e l = lt-ltb (2 ^ 64 - 1) (length (discriminant_format.rows c) + length rs) (omega (arith, e, l))

-- the variant of all rows is that of a column
pub sole_below : (n k : ℕ) (vs : List ℕ) → are_below n vs ≡ true → Some k ≡ sole vs → k < n
sole_below n k [] b h = cc
sole_below n k (v ∷ vs) b h = ⊎_elim
    (λ (m : is_mixed (v ∷ vs) ≡ true). let e = cond-true (is_mixed (v ∷ vs)) None (Some v) m in cc)
    (λ (m : is_mixed (v ∷ vs) ≡ false).
    let e = cond-false (is_mixed (v ∷ vs)) None (Some v) m in
    let q : v ≡ k = cc in
    below_get n (v ∷ vs) 0 k b (ap Some q))
    (cases_Bool (is_mixed (v ∷ vs)))

-- the variant of all rows is that of each row
pub sole_times : (v : ℕ) (vs : List ℕ) → sole vs ≡ Some v → times v vs ≡ length vs
sole_times v [] h = cc
sole_times v (w ∷ ws) h = ⊎_elim
    (λ (m : is_mixed (w ∷ ws) ≡ true). let e = cond-true (is_mixed (w ∷ ws)) None (Some w) m in cc)
    (λ (m : is_mixed (w ∷ ws) ≡ false).
    let e = cond-false (is_mixed (w ∷ ws)) None (Some w) m in
    let q : w ≡ v = cc in
    let a = times_one w ws in
    let b = same_all w ws m in
    let all : times w (w ∷ ws) ≡ length (w ∷ ws) = omega (arith, a, b) in
    ap (λ u. times u (w ∷ ws)) (sym q) ∙ all)
    (cases_Bool (is_mixed (w ∷ ws)))

-- a range of a run
pub run_range : (k s e : ℕ) (ws : List ℕ) → times k ws ≡ length ws → s ≤ e → e ≤ length ws → replicate (e - s) k ≡ take (e - s) (drop s ws)
run_range k s e ws h l m =
    let w = times_all k ws h in
    sym (ap (λ us. take (e - s) (drop s us)) w ∙ (ap (take (e - s)) (drop-replicate s (length ws) k) ∙ take-replicate (e - s) (length ws - s) k (omega arith)))
