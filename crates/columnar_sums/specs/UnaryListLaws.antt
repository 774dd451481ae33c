-- Lists of bits that encode offsets.
use Rattle.std.proofs.Common.{◌≡◌, ℕ, zero, suc, ◌+◌, ◌-◌, ◌<◌, ◌≤◌, Bool, true, false, ◌||◌, List, [], ◌∷◌, ◌++◌, length, take, map, refl, sym, ◌∙◌, ap, arith, append_assoc}
use Rattle.std.specs.Prelude.{nat_lt}
use Rattle.std.proofs.lemmas.Bool.{ltb-false}
use Rattle.columnar_core.specs.Row.{truth}
use Rattle.columnar_core.specs.Bounds.{last_or}
use Rattle.columnar_sums.specs.Unary.{is_set, ends_of, falses, last_bit, upto, all_false, runs, falls}

-- truth values, as rows and back
pub set_truths : (bs : List Bool) → map is_set (map truth bs) ≡ bs
set_truths [] = refl
set_truths (b ∷ bs) = ap (λ (t : List Bool). b ∷ t) (set_truths bs)

pub ends-append : (n : ℕ) (xs ys : List Bool) → ends_of n (xs ++ ys) ≡ ends_of n xs ++ ends_of (falses n xs) ys
ends-append n [] ys = refl
ends-append n (true ∷ xs) ys = ap (λ (t : List ℕ). n ∷ t) (ends-append n xs ys)
ends-append n (false ∷ xs) ys = ends-append (n + 1) xs ys

-- if the last bit is set, the last offset is the number of clear bits
pub last-falses : (b : Bool) (m n : ℕ) (bs : List Bool) → (b ≡ true → m ≡ n) → last_bit b bs ≡ true → last_or m (ends_of n bs) ≡ falses n bs
last-falses b m n [] h e = h e
last-falses b m n (true ∷ bs) h e = last-falses true n n bs (λ p. refl) e
last-falses b m n (false ∷ bs) h e = last-falses false m (n + 1) bs (λ p. cc) e

-- there is a bit for each clear and each set bit
pub falses-ends : (n : ℕ) (bs : List Bool) → falses n bs + length (ends_of n bs) ≡ n + length bs
falses-ends n [] = refl
falses-ends n (true ∷ bs) = let h = falses-ends n bs in omega arith
falses-ends n (false ∷ bs) = let h = falses-ends (n + 1) bs in omega arith

pub upto-within : (bs : List Bool) (k : ℕ) → upto bs k ≤ length bs
upto-within bs zero = omega arith
upto-within [] (suc k) = omega arith
upto-within (true ∷ bs) (suc k) = let h = upto-within bs k in omega arith
upto-within (false ∷ bs) (suc k) = let h = upto-within bs (suc k) in omega arith

pub upto-mono : (bs : List Bool) (j k : ℕ) → j ≤ k → upto bs j ≤ upto bs k
upto-mono bs zero k l = omega arith
upto-mono bs (suc j) zero l = absurd (omega arith)
upto-mono [] (suc j) (suc k) l = omega arith
upto-mono (true ∷ bs) (suc j) (suc k) l = let h = upto-mono bs j k (omega arith) in omega arith
upto-mono (false ∷ bs) (suc j) (suc k) l = let h = upto-mono bs (suc j) (suc k) l in omega arith

-- if the last bit is set, the last set bit is the last bit
upto-false : (bs : List Bool) (k : ℕ) → 0 < k → upto (false ∷ bs) k ≡ upto bs k + 1
upto-false bs zero l = absurd (omega arith)
upto-false bs (suc k) l = refl

pub upto-all : (b : Bool) (n : ℕ) (bs : List Bool) → last_bit b bs ≡ true → (b ≡ false → 0 < length (ends_of n bs)) × (upto bs (length (ends_of n bs)) ≡ length bs)
upto-all b n [] e = (λ p. cc, refl)
upto-all b n (true ∷ bs) e = (λ p. omega arith, let h = (upto-all true n bs e).1 in omega arith)
upto-all b n (false ∷ bs) e =
    let h = upto-all false (n + 1) bs e in
    let l = h.0 refl in
    (λ p. l, upto-false bs (length (ends_of (n + 1) bs)) l ∙ (let q = h.1 in omega arith))

-- appended bits change nothing before them
pub upto-append : (n : ℕ) (bs cs : List Bool) (k : ℕ) → k ≤ length (ends_of n bs) → upto (bs ++ cs) k ≡ upto bs k
upto-append n [] cs zero l = refl
upto-append n [] cs (suc k) l = absurd (omega arith)
upto-append n (true ∷ bs) cs zero l = refl
upto-append n (true ∷ bs) cs (suc k) l = ap (λ (t : ℕ). t + 1) (upto-append n bs cs k (omega arith))
upto-append n (false ∷ bs) cs zero l = refl
upto-append n (false ∷ bs) cs (suc k) l = ap (λ (t : ℕ). t + 1) (upto-append (n + 1) bs cs (suc k) l)

-- the bits up to the k-th set bit
pub ends_cut : (n : ℕ) (bs : List Bool) (k : ℕ) → ends_of n (take (upto bs k) bs) ≡ take k (ends_of n bs)
ends_cut n bs zero = refl
ends_cut n [] (suc k) = refl
ends_cut n (true ∷ bs) (suc k) = let e : upto bs k + 1 ≡ suc (upto bs k) = omega arith in rw e (ap (λ (t : List ℕ). n ∷ t) (ends_cut n bs k))
ends_cut n (false ∷ bs) (suc k) = let e : upto bs (suc k) + 1 ≡ suc (upto bs (suc k)) = omega arith in rw e (ends_cut (n + 1) bs (suc k))

pub upto-cut : (n : ℕ) (bs : List Bool) (j k : ℕ) → j ≤ k → k ≤ length (ends_of n bs) → upto (take (upto bs k) bs) j ≡ upto bs j
upto-cut n bs zero k l m = refl
upto-cut n bs (suc j) zero l m = absurd (omega arith)
upto-cut n [] (suc j) (suc k) l m = refl
upto-cut n (true ∷ bs) (suc j) (suc k) l m =
    let e : upto bs k + 1 ≡ suc (upto bs k) = omega arith in
    rw e (ap (λ (t : ℕ). t + 1) (upto-cut n bs j k (omega arith) (omega arith)))
upto-cut n (false ∷ bs) (suc j) (suc k) l m =
    let e : upto bs (suc k) + 1 ≡ suc (upto bs (suc k)) = omega arith in
    rw e (ap (λ (t : ℕ). t + 1) (upto-cut (n + 1) bs (suc j) (suc k) l m))

pub cut-ended : (b : Bool) (n : ℕ) (bs : List Bool) (k : ℕ) → k ≤ length (ends_of n bs) → (k ≡ 0 → b ≡ true) → last_bit b (take (upto bs k) bs) ≡ true
cut-ended b n bs zero l h = h refl
cut-ended b n [] (suc k) l h = absurd (omega arith)
cut-ended b n (true ∷ bs) (suc k) l h = let e : upto bs k + 1 ≡ suc (upto bs k) = omega arith in rw e (cut-ended true n bs k (omega arith) (λ p. refl))
cut-ended b n (false ∷ bs) (suc k) l h = let e : upto bs (suc k) + 1 ≡ suc (upto bs (suc k)) = omega arith in rw e (cut-ended false (n + 1) bs (suc k) l (λ p. absurd (omega arith)))

-- ---- runs

pub ends-zeros : (n k : ℕ) (bs : List Bool) → ends_of n (all_false k ++ bs) ≡ ends_of (n + k) bs
ends-zeros n zero bs = let e : n + 0 ≡ n = omega arith in rw e refl
ends-zeros n (suc k) bs = let e : n + suc k ≡ n + 1 + k = omega arith in rw e (ends-zeros (n + 1) k bs)

pub last-append : (b : Bool) (xs ys : List Bool) → last_bit b (xs ++ ys) ≡ last_bit (last_bit b xs) ys
last-append b [] ys = refl
last-append b (x ∷ xs) ys = last-append x xs ys

last-true : (b : Bool) (xs ys : List Bool) → last_bit b (xs ++ true ∷ ys) ≡ last_bit true ys
last-true b [] ys = refl
last-true b (x ∷ xs) ys = last-true x xs ys

pub runs-ended : (from : ℕ) (ns : List ℕ) → last_bit true (runs from ns) ≡ true
runs-ended from [] = refl
runs-ended from (n ∷ ns) = last-true true (all_false (n - from)) (runs n ns) ∙ runs-ended n ns

or_false : (a b : Bool) → (a || b) ≡ false → (a ≡ false) × (b ≡ false)
or_false true b h = cc
or_false false b h = (refl, h)

pub ends-runs : (from : ℕ) (ns : List ℕ) → falls from ns ≡ false → ends_of from (runs from ns) ≡ ns
ends-runs from [] h = refl
ends-runs from (n ∷ ns) h =
    let p = or_false (nat_lt n from) (falls n ns) h in
    let l : from ≤ n = ltb-false n from p.0 in
    let e : from + (n - from) ≡ n = omega arith in
    ends-zeros from (n - from) (true ∷ runs n ns) ∙ (rw e (ap (λ (t : List ℕ). n ∷ t) (ends-runs n ns p.1)))

pub runs-append : (from : ℕ) (xs ys : List ℕ) → runs from (xs ++ ys) ≡ runs from xs ++ runs (last_or from xs) ys
runs-append from [] ys = refl
runs-append from (x ∷ xs) ys = rw (runs-append x xs ys) (sym (append_assoc (all_false (x - from)) (true ∷ runs x xs) (runs (last_or x xs) ys)))

or_more : (a b c : Bool) → (a || (b || c)) ≡ ((a || b) || c)
or_more true b c = refl
or_more false b c = refl

pub falls-append : (from : ℕ) (xs ys : List ℕ) → falls from (xs ++ ys) ≡ (falls from xs || falls (last_or from xs) ys)
falls-append from [] ys = refl
falls-append from (x ∷ xs) ys = ap (λ (t : Bool). nat_lt x from || t) (falls-append x xs ys) ∙ or_more (nat_lt x from) (falls x xs) (falls (last_or x xs) ys)

pub last-or-append : (from : ℕ) (xs ys : List ℕ) → last_or from (xs ++ ys) ≡ last_or (last_or from xs) ys
last-or-append from [] ys = refl
last-or-append from (x ∷ xs) ys = last-or-append x xs ys

-- if offsets after others do not fall, their first is not below the last of the others
pub rises-after : (from n : ℕ) (xs ns : List ℕ) → falls from (xs ++ n ∷ ns) ≡ false → last_or from xs ≤ n
rises-after from n xs ns h =
    let p = or_false (falls from xs) (falls (last_or from xs) (n ∷ ns)) (sym (falls-append from xs (n ∷ ns)) ∙ h) in
    ltb-false n (last_or from xs) (or_false (nat_lt n (last_or from xs)) (falls n ns) p.1).0
