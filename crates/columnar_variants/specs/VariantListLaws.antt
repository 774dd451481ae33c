-- Lists of variants, and values by their positions among those of their variant.
use Rattle.std.proofs.Common.{◌≡◌, ℕ, zero, suc, ◌+◌, ◌-◌, ◌<◌, ◌≤◌, ◌^◌, Bool, true, false, cond, List, [], ◌∷◌, ◌++◌, length, take, drop, refl, sym, ◌∙◌, ap, arith, append-nil, append_assoc, length-append}
use Rattle.std.specs.Prelude.{slice_get, Some, slice_index_or, nat_eq, nat_lt}
use Rattle.std.proofs.lemmas.Bool.{and_parts, and_from, eq-eqb, ne_eqb, ltb-true, lt-ltb}
use Rattle.std.proofs.lemmas.List.{take-append-drop}
use Rattle.std.proofs.lemmas.List.Sums.{sum_by-append, sum_by-cons}
use Rattle.std.proofs.Math.Seq.{take-length}
use Rattle.columnar_core.specs.Row.{Row, unit, first_of, second_of, number_of}
use Rattle.columnar_core.specs.Format.{Excess, too_many, misplaced, all_alike}
use Rattle.columnar_core.specs.ChangeLaws.{take-suc_get, slice_get-drop}
use Rattle.columnar_core.specs.Elements.{past_count}
use Rattle.columnar_sums.specs.Discriminants.{times}
use Rattle.columnar_sums.specs.DiscriminantLaws.{times-append, times_one}
use Rattle.columnar_variants.specs.Variants.{case, of_case, are_below}

pub times_first : (v x : ℕ) (xs : List ℕ) (b : Bool) → nat_eq v x ≡ b → times v (x ∷ xs) ≡ cond b 1 0 + times v xs
times_first v x xs b h = sum_by-cons (λ y. cond {A = ℕ} (nat_eq v y) 1 0) x xs ∙ ap (λ (c : Bool). cond {A = ℕ} c 1 0 + times v xs) h

pub times_before : (v : ℕ) (before vs : List ℕ) → times v before < times v (before ++ v ∷ vs)
times_before v before vs = let a = times-append v before (v ∷ vs) in let b = times_one v vs in omega (arith, a, b)

pub times_within : (v i : ℕ) (before vs : List ℕ) → slice_get vs i ≡ Some v → times v (before ++ take i vs) < times v (before ++ vs)
times_within v i before [] h = cc
times_within v zero before (w ∷ vs) h = let e : w ≡ v = cc in rw (e, append-nil) (times_before v before vs)
times_within v (suc i) before (w ∷ vs) h = let q = times_within v i (before ++ w ∷ []) vs h in rw (append_assoc before (w ∷ []) (take i vs), append_assoc before (w ∷ []) vs) at q

pub times_last : (k : ℕ) (vs : List ℕ) → times k (vs ++ k ∷ []) ≡ times k vs + 1
times_last k vs = let a = times-append k vs (k ∷ []) in let b = times_one k [] in omega (arith, a, b)

pub times_other_last : (v k : ℕ) (vs : List ℕ) → (v ≡ k → ⊥) → times v (vs ++ k ∷ []) ≡ times v vs
times_other_last v k vs h = let a = times-append v vs (k ∷ []) in let b = times_first v k [] false (ne_eqb v k h) in omega (arith, a, b)

pub times_next : (v w : ℕ) (p : List ℕ) (i : ℕ) → times v (p ++ w ∷ []) + i ≡ times v p + (times v (w ∷ []) + i)
times_next v w p i = let a = times-append v p (w ∷ []) in omega (arith, a)

-- one more row
pub times_more : (v w i : ℕ) (vs : List ℕ) → slice_get vs i ≡ Some w → (w ≡ v → ⊥) → times v (take (i + 1) vs) ≡ times v (take i vs)
times_more v w i vs h o =
    let e : take (suc i) vs ≡ take i vs ++ w ∷ [] = take-suc_get i vs w h in
    let n : suc i ≡ i + 1 = omega arith in
    let a : times v (take i vs ++ w ∷ []) ≡ times v (take i vs) + times v (w ∷ []) = sum_by-append (λ x. cond (nat_eq v x) 1 0) (take i vs) (w ∷ []) in
    let b : times v (w ∷ []) ≡ 0 = sum_by-cons (λ y. cond {A = ℕ} (nat_eq v y) 1 0) w [] ∙ ap (λ (c : Bool). cond {A = ℕ} c 1 0 + 0) (ne_eqb v w (λ z. o (sym z))) in
    let c : times v (take (i + 1) vs) ≡ times v (take i vs ++ w ∷ []) = ap (times v) (rw n at e) in
    omega (arith, a, b, c)

pub times_of_all : (v n : ℕ) (vs : List ℕ) → n ≡ length vs → times v (take n vs) ≡ times v vs
times_of_all v n vs e = ap (times v) (ap (λ z. take z vs) e ∙ take-length vs)

abbrev none : List ℕ
none = []

pub take_range : (m k : ℕ) (ws : List ℕ) → m ≤ k → take k ws ≡ take m ws ++ take (k - m) (drop m ws)
take_range zero k ws l = let e : k - 0 ≡ k = omega arith in rw e refl
take_range (suc m) zero ws l = absurd (omega arith)
take_range (suc m) (suc k) [] l = let e : suc k - suc m ≡ k - m = omega arith in rw e (take_nil (k - m))
  where
    take_nil : (n : ℕ) → none ≡ take n none
    take_nil zero = refl
    take_nil (suc n) = refl
take_range (suc m) (suc k) (w ∷ ws) l = let e : suc k - suc m ≡ k - m = omega arith in rw e (ap (λ t. w ∷ t) (take_range m k ws (omega arith)))

-- the number of rows of variant v in a range
pub times_range : (v m k : ℕ) (ws : List ℕ) → m ≤ k → times v (take k ws) ≡ times v (take m ws) + times v (take (k - m) (drop m ws))
times_range v m k ws l = ap (times v) (take_range m k ws l) ∙ times-append v (take m ws) (take (k - m) (drop m ws))

pub place_in : (v s i : ℕ) (vs ws : List ℕ) → s ≤ i → times v (vs ++ take (i - s) (drop s ws)) + times v (take s ws) ≡ times v vs + times v (take i ws)
place_in v s i vs ws l = let a = times-append v vs (take (i - s) (drop s ws)) in let b = times_range v s i ws l in omega (arith, a, b)

pub next_taken : (s i v : ℕ) (ws : List ℕ) → s ≤ i → slice_get ws i ≡ Some v → take (i + 1 - s) (drop s ws) ≡ take (i - s) (drop s ws) ++ v ∷ []
next_taken s i v ws l h =
    let d = slice_get-drop s ws i (i - s) v (omega arith) h in
    let e : i + 1 - s ≡ suc (i - s) = omega arith in
    rw e (take-suc_get (i - s) (drop s ws) v d)

pub range_length : {A : Type 0} (rs : List A) (m n : ℕ) → m + n ≤ length rs → length (take n (drop m rs)) ≡ n
range_length rs m zero l = refl
range_length [] m (suc n) l = absurd (omega arith)
range_length (r ∷ rs) zero (suc n) l = ap suc (range_length rs zero n (omega arith))
range_length (r ∷ rs) (suc m) (suc n) l = range_length rs m (suc n) (omega arith)

pub taken_length : (s i : ℕ) (vs ws : List ℕ) → s ≤ i → i ≤ length ws → length (vs ++ take (i - s) (drop s ws)) ≡ length vs + (i - s)
taken_length s i vs ws l m = length-append vs (take (i - s) (drop s ws)) ∙ ap (λ k. length vs + k) (range_length ws s (i - s) (omega arith))

pub none_taken : (s : ℕ) (vs ws : List ℕ) → vs ≡ vs ++ take (s - s) (drop s ws)
none_taken s vs ws = let e : s - s ≡ 0 = omega arith in rw e (sym (append-nil vs))

pub take_less : (i m : ℕ) (vs : List ℕ) → i ≤ m → take i (take m vs) ≡ take i vs
take_less zero m vs l = refl
take_less (suc i) zero vs l = absurd (omega arith)
take_less (suc i) (suc m) [] l = refl
take_less (suc i) (suc m) (v ∷ vs) l = ap (λ t. v ∷ t) (take_less i m vs (omega arith))

pub fewer : (v i m : ℕ) (vs : List ℕ) → i ≤ m → times v (take i vs) ≤ times v (take m vs)
fewer v i m vs l =
    let s : take i (take m vs) ++ drop i (take m vs) ≡ take m vs = take-append-drop i (take m vs) in
    let e : take i (take m vs) ≡ take i vs = take_less i m vs l in
    let a : times v (take i (take m vs) ++ drop i (take m vs)) ≡ times v (take i (take m vs)) + times v (drop i (take m vs)) = sum_by-append (λ x. cond (nat_eq v x) 1 0) (take i (take m vs)) (drop i (take m vs)) in
    let c : times v (take i (take m vs) ++ drop i (take m vs)) ≡ times v (take m vs) = ap (times v) s in
    let d : times v (take i (take m vs)) ≡ times v (take i vs) = ap (times v) e in
    omega (arith, a, c, d)

pub below_get : (n : ℕ) (vs : List ℕ) (i v : ℕ) → are_below n vs ≡ true → slice_get vs i ≡ Some v → v < n
below_get n [] i v b h = cc
below_get n (w ∷ vs) zero v b h = let e : w ≡ v = cc in rw e at (ltb-true w n (and_parts (nat_lt w n) (are_below n vs) b).0)
below_get n (w ∷ vs) (suc i) v b h = below_get n vs i v (and_parts (nat_lt w n) (are_below n vs) b).1 h

pub below-append : (n : ℕ) (vs : List ℕ) (k : ℕ) → are_below n vs ≡ true → k < n → are_below n (vs ++ k ∷ []) ≡ true
below-append n [] k b l = and_from (nat_lt k n) true (lt-ltb k n l) refl
below-append n (w ∷ vs) k b l = let p = and_parts (nat_lt w n) (are_below n vs) b in and_from _ _ p.0 (below-append n vs k p.1 l)

pub below-take : (n m : ℕ) (vs : List ℕ) → are_below n vs ≡ true → are_below n (take m vs) ≡ true
below-take n zero vs h = refl
below-take n (suc m) [] h = refl
below-take n (suc m) (v ∷ vs) h = let p = and_parts (nat_lt v n) (are_below n vs) h in and_from _ _ p.0 (below-take n m vs p.1)

pub below-drop : (n m : ℕ) (vs : List ℕ) → are_below n vs ≡ true → are_below n (drop m vs) ≡ true
below-drop n zero vs h = h
below-drop n (suc m) [] h = refl
below-drop n (suc m) (v ∷ vs) h = below-drop n m vs (and_parts (nat_lt v n) (are_below n vs) h).1

pub below_both : (n : ℕ) (vs ws : List ℕ) → are_below n vs ≡ true → are_below n ws ≡ true → are_below n (vs ++ ws) ≡ true
below_both n [] ws h k = k
below_both n (v ∷ vs) ws h k = let p = and_parts (nat_lt v n) (are_below n vs) h in and_from _ _ p.0 (below_both n vs ws p.1 k)

-- a variant that is at least n does not occur among those below n
pub none_beyond : (n v : ℕ) (vs : List ℕ) → are_below n vs ≡ true → n ≤ v → times v vs ≡ 0
none_beyond n v [] h l = refl
none_beyond n v (w ∷ vs) h l =
    let p = and_parts (nat_lt w n) (are_below n vs) h in
    let k : w < n = ltb-true w n p.0 in
    let q = times_first v w vs false (ne_eqb v w (λ e. absurd (omega (arith, e, k, l)))) in
    let r = none_beyond n v vs p.1 l in
    omega (arith, q, r)

pub index_read : (rs : List Row) (o : ℕ) (r : Row) → slice_get rs o ≡ Some r → slice_index_or rs o unit ≡ r
index_read [] o r h = cc
index_read (s ∷ rs) zero r h = cc
index_read (s ∷ rs) (suc o) r h = index_read rs o r h

pub index_last : (rs : List Row) (r : Row) (o : ℕ) → length rs ≡ o → slice_index_or (rs ++ r ∷ []) o unit ≡ r
index_last [] r zero e = refl
index_last [] r (suc o) e = absurd (omega arith)
index_last (s ∷ rs) r zero e = absurd (omega arith)
index_last (s ∷ rs) r (suc o) e = index_last rs r o (omega arith)

pub index_front : (rs ss : List Row) (o : ℕ) → o < length rs → slice_index_or (rs ++ ss) o unit ≡ slice_index_or rs o unit
index_front [] ss o l = absurd (omega arith)
index_front (r ∷ rs) ss zero l = refl
index_front (r ∷ rs) ss (suc o) l = index_front rs ss o (omega arith)

pub index_past : (rs ss : List Row) (n i : ℕ) → n ≡ length rs + i → slice_index_or (rs ++ ss) n unit ≡ slice_index_or ss i unit
index_past [] ss n i e = ap (λ k. slice_index_or ss k unit) (omega arith)
index_past (r ∷ rs) ss zero i e = absurd (omega arith)
index_past (r ∷ rs) ss (suc n) i e = index_past rs ss n i (omega arith)

pub index_take : (rs : List Row) (k o : ℕ) → o < k → slice_index_or (take k rs) o unit ≡ slice_index_or rs o unit
index_take rs zero o l = absurd (omega arith)
index_take [] (suc k) o l = refl
index_take (r ∷ rs) (suc k) zero l = refl
index_take (r ∷ rs) (suc k) (suc o) l = index_take rs k o (omega arith)

pub index_nothing : (k : ℕ) → slice_index_or [] k unit ≡ unit
index_nothing zero = refl
index_nothing (suc k) = refl

pub index_drop : (rs : List Row) (m n i : ℕ) → n ≡ m + i → slice_index_or (drop m rs) i unit ≡ slice_index_or rs n unit
index_drop rs zero n i e = ap (λ k. slice_index_or rs k unit) (omega arith)
index_drop [] (suc m) n i e = index_nothing i ∙ sym (index_nothing n)
index_drop (r ∷ rs) (suc m) zero i e = absurd (omega arith)
index_drop (r ∷ rs) (suc m) (suc n) i e = index_drop rs m n i (omega arith)

pub alike_at : (same : Row → Row → Bool) (rs ss : List Row) (i : ℕ) → all_alike same rs ss ≡ true → i < length ss → same (slice_index_or rs i unit) (slice_index_or ss i unit) ≡ true
alike_at same [] [] i h l = absurd (omega arith)
alike_at same [] (s ∷ ss) i h l = cc
alike_at same (r ∷ rs) [] i h l = absurd (omega arith)
alike_at same (r ∷ rs) (s ∷ ss) zero h l = (and_parts (same r s) (all_alike same rs ss) h).0
alike_at same (r ∷ rs) (s ∷ ss) (suc i) h l = alike_at same rs ss i (and_parts (same r s) (all_alike same rs ss) h).1 (omega arith)

pub take_next : (rs : List Row) (m n : ℕ) → m < length rs → take (suc n) (drop m rs) ≡ slice_index_or rs m unit ∷ take n (drop (suc m) rs)
take_next [] m n l = absurd (omega arith)
take_next (r ∷ rs) zero n l = refl
take_next (r ∷ rs) (suc m) n l = take_next rs m n (omega arith)

pub of_case_here : (k : ℕ) (r : Row) (rs : List Row) → of_case k (case k r ∷ rs) ≡ r ∷ of_case k rs
of_case_here k r rs = rw (eq-eqb k k refl) refl

pub of_case_other : (v k : ℕ) (r : Row) (rs : List Row) → (v ≡ k → ⊥) → of_case v (case k r ∷ rs) ≡ of_case v rs
of_case_other v k r rs h = rw (ne_eqb v k h) refl

pub of_case-append : (k : ℕ) (rs ss : List Row) → of_case k (rs ++ ss) ≡ of_case k rs ++ of_case k ss
of_case-append k [] ss = refl
of_case-append k (r ∷ rs) ss = by_test (nat_eq k (number_of (first_of r))) (second_of r) (of_case k rs) (of_case k ss) (of_case k (rs ++ ss)) (of_case-append k rs ss)
  where
    by_test : (b : Bool) (t : Row) (us vs ws : List Row) → ws ≡ us ++ vs → cond b (t ∷ ws) ws ≡ cond b (t ∷ us) us ++ vs
    by_test true t us vs ws h = ap (λ z. t ∷ z) h
    by_test false t us vs ws h = h

pub past_grows : (e : Excess) (m n : ℕ) → m ≤ n → past_count e m ≡ true → past_count e n ≡ true
past_grows too_many m n l h = lt-ltb (2 ^ 64 - 1) n (omega (arith, l, ltb-true (2 ^ 64 - 1) m h))
past_grows misplaced m n l h = cc
