-- Numbers of rows of each variant if all rows have the same one.
use Rattle.std.proofs.Common.{◌≡◌, ℕ, zero, suc, ◌+◌, ◌<◌, ◌≤◌, true, false, cond, List, [], ◌∷◌, ◌++◌, length, take, replicate, refl, sym, ◌∙◌, ap, arith, ⊎_elim, drop, length-append}
use Rattle.std.proofs.lemmas.List.Sums.{sum_by-append}
use Rattle.std.specs.Prelude.{slice_index, slice_set, Some, None, nat_eq, nat_lt}
use Rattle.std.proofs.lemmas.Bool.{and_parts, and_from, and_right, eq-eqb, ne_eqb, cases_eq, lt-ltb, le-ltb, cond-true, cond-false, cases_Bool}
use Rattle.std.proofs.lemmas.List.{take-append-drop, get_or-replicate, get_or-set_same, get_or-set_other, take_all}
use Rattle.columnar_sums.specs.Discriminants.{times, is_mixed, sole}
use Rattle.columnar_sums.specs.DiscriminantLaws.{times_all, times_most, times_absent, times_other}
use Rattle.columnar_variants.specs.Variants.{are_below}
use Rattle.columnar_variants.specs.VariantCounts.{EachCounted, are_told}

-- all rows have one variant

below_all : (n v m : ℕ) → v < n → are_below n (replicate m v) ≡ true
below_all n v zero l = refl
below_all n v (suc m) l = and_from _ _ (lt-ltb v n l) (below_all n v m l)

pub below_sole : (n v : ℕ) (vs : List ℕ) → v < n → times v vs ≡ length vs → are_below n vs ≡ true
below_sole n v vs l h = rw (times_all v vs h) (below_all n v (length vs) l)

pub above_sole : (n v : ℕ) (vs : List ℕ) → n ≤ v → sole vs ≡ Some v → are_below n vs ≡ false
above_sole n v [] l h = cc
above_sole n v (w ∷ vs) l h = ⊎_elim
    (λ (m : is_mixed (w ∷ vs) ≡ true). let e = cond-true (is_mixed (w ∷ vs)) None (Some w) m in cc)
    (λ (m : is_mixed (w ∷ vs) ≡ false).
    let e = cond-false (is_mixed (w ∷ vs)) None (Some w) m in
    let q : w ≡ v = cc in
    let r : nat_lt w n ≡ false = le-ltb w n (omega (arith, q, l)) in
    rw r refl)
    (cases_Bool (is_mixed (w ∷ vs)))

-- neither one variant nor several
pub none_sole : (vs : List ℕ) → None ≡ sole vs → is_mixed vs ≡ false → vs ≡ []
none_sole [] h m = refl
none_sole (w ∷ vs) h m = let e = cond-false (is_mixed (w ∷ vs)) None (Some w) m in cc

pub counted_sole : (v : ℕ) (vs : List ℕ) → v < 256 → times v vs ≡ length vs → EachCounted vs (slice_set (replicate 256 0) v (length vs))
counted_sole v vs m h = λ k l. ⊎_elim
    (λ (e : k ≡ v). rw e (get_or-set_same (replicate 256 0) v (length vs) 0 m ∙ sym h))
    (λ (e : k ≡ v → ⊥). get_or-set_other (replicate 256 0) v k (length vs) 0 e ∙ (get_or-replicate 256 k 0 0 l ∙ sym (ap (times k) (times_all v vs h) ∙ times_absent k v (length vs) e)))
    (cases_eq k v)

pub counted_nothing : (vs : List ℕ) → vs ≡ [] → EachCounted vs (replicate 256 0)
counted_nothing vs e = λ k l. get_or-replicate 256 k 0 0 l ∙ sym (ap (times k) e)

pub counted_all : (vs counts : List ℕ) (n : ℕ) → n ≡ length vs → ((k : ℕ) → k < 256 → slice_index counts k ≡ times k (take n vs)) → EachCounted vs counts
counted_all vs counts n e h = rw (take_all n vs (omega (arith, e))) at h

-- one more row

pub below_more : (n : ℕ) (vs : List ℕ) (i : ℕ) → i < length vs → slice_index vs i < n → are_below n (take i vs) ≡ true → are_below n (take (i + 1) vs) ≡ true
below_more n [] i l m h = absurd (omega arith)
below_more n (w ∷ vs) zero l m h = and_from _ _ (lt-ltb w n m) refl
below_more n (w ∷ vs) (suc i) l m h =
    let p = and_parts (nat_lt w n) (are_below n (take i vs)) h in
    let k : suc i + 1 ≡ suc (i + 1) = omega arith in
    rw k (and_from _ _ p.0 (below_more n vs i (omega arith) m p.1))

pub above_at : (n : ℕ) (vs : List ℕ) (i : ℕ) → i < length vs → n ≤ slice_index vs i → are_below n vs ≡ false
above_at n [] i l m = absurd (omega arith)
above_at n (w ∷ vs) zero l m = let r : nat_lt w n ≡ false = le-ltb w n m in rw r refl
above_at n (w ∷ vs) (suc i) l m = and_right (nat_lt w n) (are_below n vs) (above_at n vs i (omega arith) m)

pub below_whole : (m n : ℕ) (vs : List ℕ) → m ≡ length vs → are_below n (take m vs) ≡ true → are_below n vs ≡ true
below_whole m n vs e h = rw (take_all m vs (omega (arith, e))) at h

-- numbers of rows, one for each variant

pub told_from : (ls : List ℕ) (n : ℕ → ℕ) → ((i : ℕ) → i < length ls → slice_index ls i ≡ n i) → are_told ls n ≡ true
told_from [] n h = refl
told_from (l ∷ ls) n h = and_from _ _ (eq-eqb l (n 0) (h 0 (omega arith))) (told_from ls (λ v. n (suc v)) (λ i k. h (suc i) (omega arith)))

pub told_not : (ls : List ℕ) (n : ℕ → ℕ) (i : ℕ) → i < length ls → (slice_index ls i ≡ n i → ⊥) → are_told ls n ≡ false
told_not [] n i l h = absurd (omega arith)
told_not (x ∷ ls) n zero l h = let e : nat_eq x (n 0) ≡ false = ne_eqb x (n 0) h in rw e refl
told_not (x ∷ ls) n (suc i) l h = and_right (nat_eq x (n 0)) (are_told ls (λ v. n (suc v))) (told_not ls (λ v. n (suc v)) i (omega arith) h)

-- the first n of variants that are all k

pub front_sole : (k n : ℕ) (vs : List ℕ) → n ≤ length vs → times k vs ≡ length vs → times k (take n vs) ≡ n
front_sole k n vs l h =
    let w = take-append-drop n vs in
    let a : times k (take n vs ++ drop n vs) ≡ times k (take n vs) + times k (drop n vs) = sum_by-append (λ x. cond (nat_eq k x) 1 0) (take n vs) (drop n vs) in
    let b : times k (take n vs ++ drop n vs) ≡ times k vs = ap (times k) w in
    let c : length (take n vs) + length (drop n vs) ≡ length vs = sym (length-append (take n vs) (drop n vs)) ∙ ap length w in
    let m = length_front n vs l in
    omega (arith, a, b, c, m, h, times_most k (take n vs), times_most k (drop n vs))
  where
    length_front : (n : ℕ) (vs : List ℕ) → n ≤ length vs → length (take n vs) ≡ n
    length_front zero vs l = refl
    length_front (suc n) [] l = absurd (omega arith)
    length_front (suc n) (v ∷ vs) l = ap suc (length_front n vs (omega arith))

pub front_other : (k v n : ℕ) (vs : List ℕ) → n ≤ length vs → times k vs ≡ length vs → (v ≡ k → ⊥) → times v (take n vs) ≡ 0
front_other k v n vs l h o =
    let e : take n vs ≡ take n (replicate (length vs) k) = ap (take n) (times_all k vs h) in
    ap (times v) e ∙ absent_front v k n (length vs) o
  where
    absent_front : (v k n m : ℕ) → (v ≡ k → ⊥) → times v (take n (replicate m k)) ≡ 0
    absent_front v k zero m o = refl
    absent_front v k (suc n) zero o = refl
    absent_front v k (suc n) (suc m) o = times_other v k (take n (replicate m k)) o ∙ absent_front v k n m o

pub told_same : (ls : List ℕ) (n m : ℕ → ℕ) → ((i : ℕ) → i < length ls → n i ≡ m i) → are_told ls n ≡ are_told ls m
told_same [] n m h = refl
told_same (l ∷ ls) n m h = let e : n 0 ≡ m 0 = h 0 (omega arith) in let k = told_same ls (λ v. n (suc v)) (λ v. m (suc v)) (λ i q. h (suc i) (omega arith)) in rw (e, k) refl
