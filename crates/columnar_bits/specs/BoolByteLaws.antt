use Rattle.std.proofs.Common.{◌≡◌, ℕ, suc, ◌+◌, ◌*◌, ◌/◌, ◌%◌, ◌^◌, ◌<◌, ◌≤◌, true, false, List, [], ◌∷◌, ◌++◌, length, take, drop, refl, ◌∙◌, arith, ⊎_elim}
use Rattle.std.specs.Prelude.{slice_index_or, Some, None, nat_eq, nat_lt}
use Rattle.std.specs.Int.{to_le_bytes, w64}
use Rattle.std.proofs.Math.Nat.{div-eq_of_lt, lt-mul-div-succ}
use Rattle.std.proofs.Math.Path.{ap₂}
use Rattle.std.proofs.lemmas.Bool.{cases_lt, eq-eqb, ne_eqb, ltb-true, lt-ltb, le-ltb, and_parts}
use Rattle.std.proofs.lemmas.Nat.{pow_pos}
use Rattle.std.proofs.lemmas.List.{take-append-drop, take_all, append-nil, length-drop, drop-drop}
use Rattle.columnar_core.specs.Format.{slice, both, first, moved, fault}
use Rattle.columnar_core.specs.StoreLaws.{drop_at}
use Rattle.columnar_core.specs.Elements.{first_slice}
use Rattle.columnar_core.specs.WordViews.{words_in, le_bytes}
use Rattle.columnar_bits.specs.BoolColumns.{bit_count, is_tail, last_word, last_count, bools_broken, bools_format}

not_below : (m n : ℕ) → n ≤ m → nat_lt m n ≡ false
not_below m n h = le-ltb m n h

few_of : (w c : ℕ) → is_tail w c ≡ true → c < 64
few_of w c t = ltb-true c 64 (and_parts (nat_lt c 64) (nat_lt w (2 ^ c)) t).0

-- the test of a tail
pub fits_is : (w c : ℕ) → c < 64 → nat_eq (w / 2 ^ c) 0 ≡ is_tail w c
fits_is w c l =
    let few : nat_lt c 64 ≡ true = lt-ltb c 64 l in
    ⊎_elim (λ (h : w < 2 ^ c).
    let z : w / 2 ^ c ≡ 0 = div-eq_of_lt h in
    let t : nat_lt w (2 ^ c) ≡ true = lt-ltb w (2 ^ c) h in
    rw (few, t, z) refl)
    (λ (h : 2 ^ c ≤ w).
    let z : nat_eq (w / 2 ^ c) 0 ≡ false = ne_eqb _ _ (λ e. let q : w < 2 ^ c * (0 + 1) = rw e at (lt-mul-div-succ w (pow_pos c)) in omega arith) in
    let t : nat_lt w (2 ^ c) ≡ false = not_below w (2 ^ c) h in
    rw (few, t, z) refl)
    (cases_lt w (2 ^ c))

-- the first broken rule, in the order of the tests
pub bad_size : (a b : List ℕ) (o : ℕ) → (length a % 8 ≡ 0 → ⊥) → Some (fault 8 o) ≡ first (moved o (bools_broken (both (slice a) (slice b))))
bad_size a b o h =
    let e : nat_eq (length a % 8) 0 ≡ false = ne_eqb _ _ h in
    let k : o + 0 ≡ o = omega arith in
    rw (e, k) refl

pub bad_head : (a b : List ℕ) (o : ℕ) → length a % 8 ≡ 0 → (length b ≡ 16 → ⊥) → Some (fault 9 (o + 1)) ≡ first (moved o (bools_broken (both (slice a) (slice b))))
bad_head a b o l h =
    let f : nat_eq (length a % 8) 0 ≡ true = eq-eqb _ _ l in
    let e : nat_eq (length b) 16 ≡ false = ne_eqb _ _ h in
    rw (f, e) refl

pub bad_tail : (a b : List ℕ) (o : ℕ) → length a % 8 ≡ 0 → length b ≡ 16 → is_tail (last_word b) (last_count b) ≡ false → Some (fault 13 o) ≡ first (moved o (bools_broken (both (slice a) (slice b))))
bad_tail a b o l m e =
    let f : nat_eq (length a % 8) 0 ≡ true = eq-eqb _ _ l in
    let g : nat_eq (length b) 16 ≡ true = eq-eqb _ _ m in
    let k : o + 0 ≡ o = omega arith in
    rw (f, g, e, k) refl

pub bad_length : (a b : List ℕ) (o : ℕ) → length a % 8 ≡ 0 → length b ≡ 16 → is_tail (last_word b) (last_count b) ≡ true → 2 ^ 58 ≤ length (words_in a) → Some (fault 19 o) ≡ first (moved o (bools_broken (both (slice a) (slice b))))
bad_length a b o l m t h =
    let f : nat_eq (length a % 8) 0 ≡ true = eq-eqb _ _ l in
    let g : nat_eq (length b) 16 ≡ true = eq-eqb _ _ m in
    let e : nat_lt (bit_count a b) (2 ^ 64) ≡ false = not_below (bit_count a b) (2 ^ 64) (omega arith) in
    let k : o + 0 ≡ o = omega arith in
    rw (f, g, t, e, k) refl

pub all_fine : (a b : List ℕ) (o : ℕ) → length a % 8 ≡ 0 → length b ≡ 16 → is_tail (last_word b) (last_count b) ≡ true → length (words_in a) < 2 ^ 58 → None ≡ first (moved o (bools_broken (both (slice a) (slice b))))
all_fine a b o l m t h =
    let f : nat_eq (length a % 8) 0 ≡ true = eq-eqb _ _ l in
    let g : nat_eq (length b) 16 ≡ true = eq-eqb _ _ m in
    let c : last_count b < 64 = few_of (last_word b) (last_count b) t in
    let e : nat_lt (bit_count a b) (2 ^ 64) ≡ true = lt-ltb (bit_count a b) (2 ^ 64) (omega arith) in
    rw (f, g, t, e) refl

-- the two slices at an offset
pub built_at : (ss : List (List ℕ)) (o : ℕ) (a b : List ℕ) → o + 2 ≤ length ss → a ≡ slice_index_or ss o [] → b ≡ slice_index_or ss (o + 1) [] → bools_format.build (drop o ss) ≡ both (slice a) (slice b)
built_at ss o a b l p q =
    let d = drop_at ss o a (omega arith) p in
    let e = drop_at ss (o + 1) b (omega arith) q in
    let f : suc o ≡ o + 1 = omega arith in
    rw (d, f, e) refl

-- the bytes of two words read from 16 bytes
pub two_read : (bs : List ℕ) (w c : ℕ) → length bs ≡ 16 → to_le_bytes w64 w ≡ take 8 (drop (8 * 0) bs) → to_le_bytes w64 c ≡ take 8 (drop (8 * 1) bs) → le_bytes (w ∷ c ∷ []) ≡ bs
two_read bs w c l p q =
    let d : take 8 (drop 8 bs) ≡ drop 8 bs = take_all 8 (drop 8 bs) (omega (arith, length-drop 8 bs)) in
    ap₂ (λ (x y : List ℕ). x ++ (y ++ [])) p (q ∙ d) ∙ (rw append-nil (take-append-drop 8 bs))

-- the content of a column of these two slices
pub loaded_at : (ss : List (List ℕ)) (o : ℕ) (xs tail b : List ℕ) → o + 2 ≤ length ss → slice (le_bytes xs) ≡ first_slice (drop o ss) → le_bytes tail ≡ b → b ≡ slice_index_or ss (o + 1) [] → both (slice (le_bytes xs)) (slice (le_bytes tail)) ≡ bools_format.build (drop o ss)
loaded_at ss o xs tail b l p q r =
    let e = drop_at ss (o + 1) b (omega arith) r in
    let d : drop 1 (drop o ss) ≡ drop (o + 1) ss = drop-drop 1 o ss in
    rw (p, q, d, e) refl
