-- Numbers of rows, one for each variant, in an array of 256.
use Rattle.std.proofs.Common.{◌≡◌, ℕ, zero, suc, ◌+◌, ◌<◌, ◌≤◌, true, List, [], ◌∷◌, length, take, replicate, refl, sym, ◌∙◌, ap, arith, ⊎_elim}
use Rattle.std.specs.Prelude.{slice_index, slice_set, nat_lt}
use Rattle.std.proofs.lemmas.Bool.{and_parts, and_from, ltb-true, lt-ltb, cases_eq, cases_lt}
use Rattle.std.proofs.lemmas.List.{get_or-set_same, get_or-set_other}
use Rattle.columnar_sums.specs.Discriminants.{times}
use Rattle.columnar_variants.specs.Variants.{are_below}
use Rattle.columnar_variants.specs.VariantListLaws.{none_beyond, below-take}
use Rattle.columnar_variants.specs.VariantCounts.{EachCounted}

pub zeros_at : (m v : ℕ) → slice_index (replicate m 0) v ≡ 0
zeros_at zero zero = refl
zeros_at zero (suc v) = refl
zeros_at (suc m) zero = refl
zeros_at (suc m) (suc v) = zeros_at m v

-- there is none after the end
pub none_at : (ns : List ℕ) (v : ℕ) → length ns ≤ v → slice_index ns v ≡ 0
none_at [] zero l = refl
none_at [] (suc v) l = refl
none_at (n ∷ ns) zero l = absurd (omega arith)
none_at (n ∷ ns) (suc v) l = none_at ns v (omega arith)

-- one more number
pub fronts_more : (fs : List ℕ) (at n : ℕ) (f : ℕ → ℕ) → at < length fs → n ≡ f at → ((v : ℕ) → v < at → slice_index fs v ≡ f v) → (v : ℕ) → v < at + 1 → slice_index (slice_set fs at n) v ≡ f v
fronts_more fs at n f m e d v l = ⊎_elim
    (λ (i : v ≡ at). rw i (get_or-set_same fs at n 0 m ∙ e))
    (λ (o : v ≡ at → ⊥). get_or-set_other fs at v n 0 o ∙ d v (omega (arith, l, o)))
    (cases_eq v at)

pub fronts_left : (fs : List ℕ) (at n : ℕ) → ((v : ℕ) → at ≤ v → slice_index fs v ≡ 0) → (v : ℕ) → at + 1 ≤ v → slice_index (slice_set fs at n) v ≡ 0
fronts_left fs at n r v l = get_or-set_other fs at v n 0 (λ e. absurd (omega (arith, e, l))) ∙ r v (omega (arith, l))

-- variants below a number are below every greater one
pub below_more_than : (m n : ℕ) (vs : List ℕ) → m ≤ n → are_below m vs ≡ true → are_below n vs ≡ true
below_more_than m n [] l h = refl
below_more_than m n (v ∷ vs) l h =
    let p = and_parts (nat_lt v m) (are_below m vs) h in
    let k : v < m = ltb-true v m p.0 in
    and_from _ _ (lt-ltb v n (omega (arith, k, l))) (below_more_than m n vs l p.1)

pub below_bytes : (vs : List ℕ) → ((i : ℕ) → slice_index vs i < 256) → are_below 256 vs ≡ true
below_bytes [] h = refl
below_bytes (v ∷ vs) h = and_from _ _ (lt-ltb v 256 (h 0)) (below_bytes vs (λ i. h (suc i)))

-- `at` is the number of columns, or 256 if there are more
pub below_same : (size at : ℕ) (vs : List ℕ) → (size ≤ 256 → at ≡ size) → (256 ≤ size → at ≡ 256) → are_below 256 vs ≡ true → are_below at vs ≡ are_below size vs
below_same size at vs few many g = ⊎_elim
    (λ (l : 256 < size). ap (λ k. are_below k vs) (many (omega arith)) ∙ (g ∙ sym (below_more_than 256 size vs (omega arith) g)))
    (λ (l : size ≤ 256). ap (λ k. are_below k vs) (few l))
    (cases_lt 256 size)

-- a number for each variant, if those from `at` on have none
pub fronts_all : (size at n : ℕ) (vs fs : List ℕ) → (size ≤ 256 → at ≡ size) → (256 ≤ size → at ≡ 256) → are_below size vs ≡ true → are_below 256 vs ≡ true → ((v : ℕ) → v < at → slice_index fs v ≡ times v (take n vs)) → ((v : ℕ) → at ≤ v → slice_index fs v ≡ 0) → (v : ℕ) → slice_index fs v ≡ times v (take n vs)
fronts_all size at n vs fs few many below bytes d r v = ⊎_elim
    (λ (l : v < at). d v l)
    (λ (l : at ≤ v). r v l ∙ sym (⊎_elim
    (λ (k : 256 < size). none_beyond 256 v (take n vs) (below-take 256 n vs bytes) (let e = many (omega arith) in omega (arith, e, l)))
    (λ (k : size ≤ 256). none_beyond size v (take n vs) (below-take size n vs below) (let e = few k in omega (arith, e, l)))
    (cases_lt 256 size)))
    (cases_lt v at)

-- counts of bytes are counts of all numbers
pub counts_all : (vs counts : List ℕ) → length counts ≡ 256 → are_below 256 vs ≡ true → EachCounted vs counts → (v : ℕ) → slice_index counts v ≡ times v vs
counts_all vs counts m below h v = ⊎_elim
    (λ (l : v < 256). h v l)
    (λ (l : 256 ≤ v). none_at counts v (omega (arith, m, l)) ∙ sym (none_beyond 256 v vs below l))
    (cases_lt v 256)

pub below_nothing : (vs : List ℕ) → vs ≡ [] → are_below 256 vs ≡ true
below_nothing vs e = rw e refl

pub at_within : (size at : ℕ) → (size ≤ 256 → at ≡ size) → (256 ≤ size → at ≡ 256) → (at ≤ size) × (at ≤ 256)
at_within size at few many = ⊎_elim
    (λ (l : 256 < size). let e = many (omega arith) in (omega (arith, e, l), omega (arith, e)))
    (λ (l : size ≤ 256). let e = few l in (omega (arith, e), omega (arith, e, l)))
    (cases_lt 256 size)
