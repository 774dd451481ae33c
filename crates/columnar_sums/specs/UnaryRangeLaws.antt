-- Ranges of offsets in unary: their positions among the bits, and their bits after those of other offsets.
use Rattle.std.proofs.Common.{◌≡◌, ℕ, zero, suc, ◌+◌, ◌-◌, ◌<◌, ◌≤◌, Bool, true, false, ◌||◌, List, [], ◌∷◌, ◌++◌, length, take, drop, map, refl, sym, ◌∙◌, ap, arith, length-drop}
use Rattle.std.specs.Prelude.{slice_get, slice_index_or, slice_range, Some, nat_lt}
use Rattle.std.proofs.lemmas.List.{length-map, take-map}
use Rattle.std.proofs.lemmas.Bool.{le-ltb}
use Rattle.columnar_core.specs.Row.{Row, number}
use Rattle.columnar_core.specs.Bounds.{numbers, last_or, shifted}
use Rattle.columnar_core.specs.BoundLaws.{last_at}
use Rattle.columnar_sums.specs.Counting.{ones}
use Rattle.columnar_sums.specs.CountLaws.{ones_zero, ones_true, ones_false}
use Rattle.columnar_sums.specs.RankColumns.{IsNextTrue, AreFalseFrom}
use Rattle.columnar_sums.specs.Unary.{ends_of, last_bit, upto, all_false, runs, falls}
use Rattle.columnar_sums.specs.UnaryListLaws.{ends_cut, cut-ended, upto-within}
use Rattle.columnar_sums.specs.UnaryBitLaws.{ones_ends, ends_found, ones_skip, no_end}

-- ---- positions of offsets

-- the last of some offsets does not depend on the previous ones
last_of_some : (m n : ℕ) (ns : List ℕ) → 0 < length ns → last_or m ns ≡ last_or n ns
last_of_some m n [] l = absurd (omega arith)
last_of_some m n (x ∷ ns) l = refl

some_taken : {A : Type 0} (k : ℕ) (xs : List A) → 0 < length xs → 0 < length (take (suc k) xs)
some_taken k [] l = absurd (omega arith)
some_taken k (x ∷ xs) l = omega arith

-- the first m set bits end at the sum of the last of their offsets and their number
upto_ends : (from : ℕ) (b : List Bool) (m : ℕ) → m ≤ length (ends_of from b) → upto b m + from ≡ last_or from (take m (ends_of from b)) + m
upto_ends from b zero l = omega arith
upto_ends from [] (suc m) l = absurd (omega arith)
upto_ends from (true ∷ b) (suc m) l = let h = upto_ends from b m (omega arith) in omega arith
upto_ends from (false ∷ b) (suc m) l =
    let h = upto_ends (from + 1) b (suc m) l in
    let e = last_of_some from (from + 1) (take (suc m) (ends_of (from + 1) b)) (some_taken m (ends_of (from + 1) b) (omega arith)) in
    omega arith

pub upto_at : (b : List Bool) (m lower : ℕ) → m ≤ length (ends_of 0 b) → slice_get (0 ∷ ends_of 0 b) m ≡ Some lower → upto b m ≡ lower + m
upto_at b m lower l h = let e = upto_ends 0 b m l in let d = last_at m 0 (ends_of 0 b) lower h in omega arith

-- there are m set bits before that
ones_upto : (n : ℕ) (b : List Bool) (m : ℕ) → m ≤ length (ends_of n b) → ones b (upto b m) ≡ m
ones_upto n b zero l = ones_zero b
ones_upto n [] (suc m) l = absurd (omega arith)
ones_upto n (true ∷ b) (suc m) l =
    let e : upto b m + 1 ≡ suc (upto b m) = omega arith in
    rw e (ones_true b (upto b m) ∙ ap suc (ones_upto n b m (omega arith)))
ones_upto n (false ∷ b) (suc m) l =
    let e : upto b (suc m) + 1 ≡ suc (upto b (suc m)) = omega arith in
    rw e (ones_false b (upto b (suc m)) ∙ ones_upto (n + 1) b (suc m) l)

-- the next set bit from there is that of offset m
pub end_from : (b : List Bool) (m q from : ℕ) → m ≤ length (ends_of 0 b) → from ≡ upto b m → q < length b → IsNextTrue b from q → (slice_get (ends_of 0 b) m ≡ Some (q - m)) × (m ≤ q)
end_from b m q from l e k h =
    let w = upto-within b m in
    let o : ones b q ≡ m = ones_skip b from q h.0 (omega arith) h.2 ∙ ap (ones b) e ∙ ones_upto 0 b m l in
    let f = ends_found 0 b q h.1 in
    let d : 0 + (q - ones b q) ≡ q - m = omega (arith, o) in
    (rw (d, o) at f.0, omega (arith, o, f.1))

-- there is one if there is an offset m
pub end_there : (b : List Bool) (m from : ℕ) → m < length (ends_of 0 b) → from ≡ upto b m → AreFalseFrom b from → ⊥
end_there b m from l e h =
    let o : ones b from ≡ m = ap (ones b) e ∙ ones_upto 0 b m (omega arith) in
    let n = no_end b from h in
    omega arith

-- ---- bits of a range

-- the bits of offsets are their runs
zeros_then : (j : ℕ) (ds : List Bool) → all_false (suc j) ++ ds ≡ all_false j ++ false ∷ ds
zeros_then zero ds = refl
zeros_then (suc j) ds = ap (λ (t : List Bool). false ∷ t) (zeros_then j ds)

runs_from : (c : Bool) (from j : ℕ) (ds : List Bool) → (c ≡ true → j ≡ 0) → last_bit c ds ≡ true → runs from (ends_of (from + j) ds) ≡ all_false j ++ ds
runs_from c from j [] z h = let e : j ≡ 0 = z h in rw e refl
runs_from c from j (true ∷ ds) z h =
    let e : from + j - from ≡ j = omega arith in
    let d : from + j + 0 ≡ from + j = omega arith in
    let r : runs (from + j) (ends_of (from + j) ds) ≡ ds = rw d at (runs_from true (from + j) 0 ds (λ p. refl) h) in
    rw (e, r) refl
runs_from c from j (false ∷ ds) z h =
    let d : from + suc j ≡ from + j + 1 = omega arith in
    let r : runs from (ends_of (from + j + 1) ds) ≡ all_false (suc j) ++ ds = rw d at (runs_from false from (suc j) ds (λ p. cc) h) in
    r ∙ zeros_then j ds

pub runs_back : (from : ℕ) (ds : List Bool) → last_bit true ds ≡ true → runs from (ends_of from ds) ≡ ds
runs_back from ds h = let e : from + 0 ≡ from = omega arith in rw e at (runs_from true from 0 ds (λ p. refl) h)

-- offsets do not fall
rise_from : (from j : ℕ) (ds : List Bool) → falls from (ends_of (from + j) ds) ≡ false
rise_from from j [] = refl
rise_from from j (true ∷ ds) =
    let d : from + j + 0 ≡ from + j = omega arith in
    let r : falls (from + j) (ends_of (from + j) ds) ≡ false = rw d at (rise_from (from + j) 0 ds) in
    rw (le-ltb (from + j) from (omega arith), r) refl
rise_from from j (false ∷ ds) = let d : from + suc j ≡ from + j + 1 = omega arith in rw d at (rise_from from (suc j) ds)

pub ends_rise : (from : ℕ) (ds : List Bool) → falls from (ends_of from ds) ≡ false
ends_rise from ds = let e : from + 0 ≡ from = omega arith in rw e at (rise_from from 0 ds)

-- the bits after the first m offsets, and those of the next n
ends_drop : (from : ℕ) (b : List Bool) (m : ℕ) → m ≤ length (ends_of from b) → ends_of (last_or from (take m (ends_of from b))) (drop (upto b m) b) ≡ drop m (ends_of from b)
ends_drop from b zero l = refl
ends_drop from [] (suc m) l = absurd (omega arith)
ends_drop from (true ∷ b) (suc m) l = let e : upto b m + 1 ≡ suc (upto b m) = omega arith in rw e (ends_drop from b m (omega arith))
ends_drop from (false ∷ b) (suc m) l =
    let e : upto b (suc m) + 1 ≡ suc (upto b (suc m)) = omega arith in
    let d = last_of_some from (from + 1) (take (suc m) (ends_of (from + 1) b)) (some_taken m (ends_of (from + 1) b) (omega arith)) in
    rw (e, d) (ends_drop (from + 1) b (suc m) l)

upto_drop : (b : List Bool) (m k : ℕ) → upto (drop (upto b m) b) k + upto b m ≡ upto b (m + k)
upto_drop b zero k = let e : zero + k ≡ k = omega arith in rw e (omega arith)
upto_drop [] (suc m) zero = let d : suc m + zero ≡ suc m = omega arith in rw d refl
upto_drop [] (suc m) (suc k) = let d : suc m + suc k ≡ suc (m + suc k) = omega arith in rw d refl
upto_drop (true ∷ b) (suc m) k =
    let e : upto b m + 1 ≡ suc (upto b m) = omega arith in
    let d : suc m + k ≡ suc (m + k) = omega arith in
    let h = upto_drop b m k in
    rw (e, d) (omega arith)
upto_drop (false ∷ b) (suc m) k =
    let e : upto b (suc m) + 1 ≡ suc (upto b (suc m)) = omega arith in
    let d : suc m + k ≡ suc (m + k) = omega arith in
    let h : upto (drop (upto b (suc m)) b) k + upto b (suc m) ≡ upto b (suc (m + k)) = rw d at (upto_drop b (suc m) k) in
    rw (e, d) (omega arith)

-- the same bits after another offset
ends_moved : (l s j : ℕ) (d : List Bool) → ends_of (s + j) d ≡ map (λ n. s + (n - l)) (ends_of (l + j) d)
ends_moved l s j [] = refl
ends_moved l s j (true ∷ d) =
    let e : s + (l + j - l) ≡ s + j = omega arith in
    rw e (ap (λ (t : List ℕ). (s + j) ∷ t) (ends_moved l s j d))
ends_moved l s j (false ∷ d) =
    let p : s + suc j ≡ s + j + 1 = omega arith in
    let q : l + suc j ≡ l + j + 1 = omega arith in
    rw (p, q) at (ends_moved l s (suc j) d)

drop_map : {A B : Type 0} (g : A → B) (n : ℕ) (xs : List A) → drop n (map g xs) ≡ map g (drop n xs)
drop_map g zero xs = refl
drop_map g (suc n) [] = refl
drop_map g (suc n) (x ∷ xs) = drop_map g n xs

map_both : (lower start : ℕ) (ns : List ℕ) → map number (map (λ n. start + (n - lower)) ns) ≡ shifted lower start ns
map_both lower start [] = refl
map_both lower start (n ∷ ns) = ap (λ (t : List Row). number (start + (n - lower)) ∷ t) (map_both lower start ns)

-- The bits of the offsets m..n, the first after `lower`, appended to bits whose last offset is `start`.
pub record RangeBits (b ds : List Bool) (m n lower start : ℕ) : Type 0 where
  pub ended : last_bit true ds ≡ true
  pub rows : map number (ends_of start ds) ≡ take (n - m) (drop m (shifted lower start (ends_of 0 b)))

pub range_bits : (b : List Bool) (m n from to lower start : ℕ) → m ≤ n → n ≤ length (ends_of 0 b) → slice_get (0 ∷ ends_of 0 b) m ≡ Some lower → from ≡ lower + m → to ≡ upto b n → RangeBits b (slice_range b from to) m n lower start
range_bits b m n from to lower start l k h p q =
    let d : List Bool = drop (upto b m) b in
    let e : from ≡ upto b m = p ∙ sym (upto_at b m lower (omega arith) h) in
    let g : m + (n - m) ≡ n = omega arith in
    let u : upto d (n - m) + upto b m ≡ upto b n = rw g at (upto_drop b m (n - m)) in
    let t : to - from ≡ upto d (n - m) = omega (arith, u, e, q) in
    let w : ends_of lower d ≡ drop m (ends_of 0 b) = rw (last_at m 0 (ends_of 0 b) lower h) at (ends_drop 0 b m (omega arith)) in
    let c : length (ends_of 0 d) ≡ length (ends_of 0 b) - m = sym (ones_ends 0 d) ∙ ones_ends lower d ∙ ap length w ∙ length-drop m (ends_of 0 b) in
    let s : slice_range b from to ≡ take (upto d (n - m)) d = rw (t, e) refl in
    let v : ends_of start d ≡ map (λ x. start + (x - lower)) (ends_of lower d) = moved d in
    record {
      ended = ap (last_bit true) s ∙ cut-ended true 0 d (n - m) (omega (arith, c)) (λ z. refl);
      rows = ap (map number) (ap (ends_of start) s ∙ ends_cut start d (n - m) ∙ ap (take (n - m)) (v ∙ ap (map (λ x. start + (x - lower))) w))
          ∙ sym (take-map number (n - m) (map (λ x. start + (x - lower)) (drop m (ends_of 0 b))))
          ∙ ap (take (n - m)) (map_both lower start (drop m (ends_of 0 b)) ∙ sym (drop_map (λ x. number (start + (x - lower))) m (ends_of 0 b)));
    }
  where
    moved : (d : List Bool) → ends_of start d ≡ map (λ x. start + (x - lower)) (ends_of lower d)
    moved d =
        let p : start + 0 ≡ start = omega arith in
        let q : lower + 0 ≡ lower = omega arith in
        rw (p, q) at (ends_moved lower start 0 d)
