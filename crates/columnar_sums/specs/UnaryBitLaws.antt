-- Offsets in unary, from the ranks and positions of their bits.
use Rattle.std.proofs.Common.{◌≡◌, ℕ, zero, suc, ◌+◌, ◌-◌, ◌*◌, ◌/◌, ◌%◌, ◌^◌, ◌<◌, ◌≤◌, Bool, true, false, List, [], ◌∷◌, ◌++◌, length, drop, map, refl, sym, ◌∙◌, ap, arith, length-append, append-nil, append_assoc, ⊎_elim}
use Rattle.std.specs.Prelude.{slice_get, slice_index_or, count_by, Some, bit_or}
use Rattle.std.proofs.lemmas.List.{take-append-le, get_or_append_left, get_or-append_right}
use Rattle.std.proofs.lemmas.Bool.{cases_lt}
use Rattle.columnar_core.specs.Row.{truth}
use Rattle.columnar_core.specs.Format.{Content}
use Rattle.columnar_core.specs.WordViews.{words_in, le_bytes}
use Rattle.columnar_bits.specs.Bits.{bit, truths}
use Rattle.std.specs.Int.Bits.{or_zero_l}
use Rattle.columnar_bits.specs.BitLaws.{truths_push, truths_grow, bit_set, bit_kept, set_below, bit_above}
use Rattle.columnar_bits.specs.BoolLaws.{words_grown}
use Rattle.columnar_sums.specs.Counting.{ones, AreCounts}
use Rattle.columnar_sums.specs.CountLaws.{ones_zero, ones_true, ones_false, ones_no, ones_yes, set_inside}
use Rattle.columnar_sums.specs.RankColumns.{ranks_format, ranks_bits, IsNextTrue, AreFalseFrom, Standing}
use Rattle.columnar_sums.specs.Unary.{unary_bits, ends_of, falses, last_bit, upto, all_false, ends_left, ends_after}
use Rattle.columnar_sums.specs.UnaryListLaws.{set_truths, falses-ends}
use Rattle.columnar_sums.specs.UnaryColumns.{repeated}

pub four : ranks_format.turns ≤ 8
four = omega arith

-- the bits of a column of bits and counts
pub ranks_bits_are : (c : Content) → unary_bits ranks_format c ≡ ranks_bits c
ranks_bits_are c = set_truths (ranks_bits c)

-- there is an offset for each set bit
pub ones_ends : (n : ℕ) (b : List Bool) → ones b (length b) ≡ length (ends_of n b)
ones_ends n [] = ones_zero []
ones_ends n (true ∷ b) = ones_true b (length b) ∙ ap suc (ones_ends n b)
ones_ends n (false ∷ b) = ones_false b (length b) ∙ ones_ends (n + 1) b

-- the offset of the set bit at p
pub ends_found : (n : ℕ) (b : List Bool) (p : ℕ) → slice_index_or b p false ≡ true → (slice_get (ends_of n b) (ones b p) ≡ Some (n + (p - ones b p))) × (ones b p ≤ p)
ends_found n [] p h = cc
ends_found n (true ∷ b) zero h =
    let e : ones (true ∷ b) 0 ≡ 0 = ones_zero (true ∷ b) in
    let d : n + (0 - 0) ≡ n = omega arith in
    (rw (e, d) refl, omega (arith, e))
ends_found n (true ∷ b) (suc p) h =
    let e = ones_true b p in
    let q = ends_found n b p h in
    let d : n + (suc p - suc (ones b p)) ≡ n + (p - ones b p) = omega arith in
    (rw (e, d) q.0, omega (arith, e, q.1))
ends_found n (false ∷ b) zero h = cc
ends_found n (false ∷ b) (suc p) h =
    let e = ones_false b p in
    let q = ends_found (n + 1) b p h in
    let d : n + (suc p - ones b p) ≡ n + 1 + (p - ones b p) = omega (arith, q.1) in
    (rw (e, d) q.0, omega (arith, e, q.1))

-- the end of that set bit
pub upto_found : (b : List Bool) (p : ℕ) → slice_index_or b p false ≡ true → upto b (suc (ones b p)) ≡ p + 1
upto_found [] p h = cc
upto_found (true ∷ b) zero h = let e : ones (true ∷ b) 0 ≡ 0 = ones_zero (true ∷ b) in rw e (omega arith)
upto_found (true ∷ b) (suc p) h = let e = ones_true b p in rw e (let q = upto_found b p h in omega arith)
upto_found (false ∷ b) zero h = cc
upto_found (false ∷ b) (suc p) h = ap (λ (t : ℕ). upto (false ∷ b) (suc t)) (ones_false b p) ∙ (let q = upto_found b p h in let r : upto b (suc (ones b p)) + 1 ≡ suc p + 1 = omega arith in r)

-- the number of clear bits
pub falses_are : (b : List Bool) → falses 0 b ≡ length b - ones b (length b)
falses_are b = let h = falses-ends 0 b in let k = ones_ends 0 b in omega arith

pub last_bit_is : (c : Bool) (b : List Bool) → 0 < length b → last_bit c b ≡ slice_index_or b (length b - 1) false
last_bit_is c [] l = absurd (omega arith)
last_bit_is c (x ∷ []) l = refl
last_bit_is c (x ∷ (y ∷ b)) l =
    let e : suc (suc (length b)) - 1 ≡ suc (length b) = omega arith in
    let d : suc (length b) - 1 ≡ length b = omega arith in
    let h : last_bit x (y ∷ b) ≡ slice_index_or (y ∷ b) (suc (length b) - 1) false = last_bit_is x (y ∷ b) (omega arith) in
    rw e (rw d at h)

-- ---- clear bits after other bits

zeros_push : (n : ℕ) → all_false n ++ false ∷ [] ≡ all_false (suc n)
zeros_push zero = refl
zeros_push (suc n) = ap (λ (t : List Bool). false ∷ t) (zeros_push n)

pub zeros_more : (m n : ℕ) → all_false m ++ all_false n ≡ all_false (m + n)
zeros_more zero n = let e : 0 + n ≡ n = omega arith in rw e refl
zeros_more (suc m) n = let e : suc m + n ≡ suc (m + n) = omega arith in rw e (ap (λ (t : List Bool). false ∷ t) (zeros_more m n))

pub length-zeros : (n : ℕ) → length (all_false n) ≡ n
length-zeros zero = refl
length-zeros (suc n) = ap suc (length-zeros n)

pub truths_zero : (n : ℕ) → truths (bit 0) n ≡ all_false n
unfolding truths
truths_zero zero = refl
truths_zero (suc n) =
    let e : n + 1 ≡ suc n = omega arith in
    let h : bit 0 n ≡ false = bit_above 0 0 n (omega arith) (omega arith) in
    rw (e, h, truths_zero n, zeros_push n) at (truths_push (bit 0) n)

-- clear bits and a set bit, as a number
pub truths_run : (n : ℕ) → n < 64 → truths (bit (1 * 2 ^ n % 2 ^ 64)) (n + 1) ≡ all_false n ++ true ∷ []
truths_run n l =
    let z : bit_or 0 (1 * 2 ^ n % 2 ^ 64) ≡ 1 * 2 ^ n % 2 ^ 64 = or_zero_l (1 * 2 ^ n % 2 ^ 64) in
    rw (truths_zero n) at (truths_grow (bit 0) (bit (1 * 2 ^ n % 2 ^ 64)) n true (λ k m. rw z at (bit_kept 0 n k l m)) (rw z at (bit_set 0 n l)))

pub run_below : (n : ℕ) → n < 64 → 1 * 2 ^ n % 2 ^ 64 < 2 ^ (n + 1)
run_below n l = rw (or_zero_l (1 * 2 ^ n % 2 ^ 64)) at (set_below 0 n l (zero_below n))
  where
    zero_below : (n : ℕ) → 0 < 2 ^ n
    zero_below zero = omega arith
    zero_below (suc n) = let h = zero_below n in omega arith

-- no set bit follows them
ones_none : (m p : ℕ) → ones (all_false m) p ≡ 0
unfolding ones
ones_none zero zero = refl
ones_none zero (suc p) = refl
ones_none (suc m) zero = refl
ones_none (suc m) (suc p) = ones_false (all_false m) p ∙ ones_none m p

pub ones_after : (b : List Bool) (m p : ℕ) → length b ≤ p → ones (b ++ all_false m) p ≡ ones b (length b)
ones_after [] m p l = ones_none m p ∙ sym (ones_zero [])
ones_after (x ∷ b) m zero l = absurd (omega arith)
ones_after (true ∷ b) m (suc p) l = ones_true (b ++ all_false m) p ∙ ap suc (ones_after b m p (omega arith)) ∙ sym (ones_true b (length b))
ones_after (false ∷ b) m (suc p) l = ones_false (b ++ all_false m) p ∙ ones_after b m p (omega arith) ∙ sym (ones_false b (length b))

pub length-repeated : (n x : ℕ) → length (repeated n x) ≡ n
length-repeated zero x = refl
length-repeated (suc n) x = ap suc (length-repeated n x)

pub get-repeated : (n x i d : ℕ) → i < n → slice_index_or (repeated n x) i d ≡ x
get-repeated zero x i d l = absurd (omega arith)
get-repeated (suc n) x zero d l = refl
get-repeated (suc n) x (suc i) d l = get-repeated n x i d (omega arith)

pub repeated_push : (n x : ℕ) → repeated n x ++ x ∷ [] ≡ repeated (n + 1) x
repeated_push zero x = refl
repeated_push (suc n) x = let e : suc n + 1 ≡ suc (n + 1) = omega arith in rw e (ap (λ (t : List ℕ). x ∷ t) (repeated_push n x))

-- the counts of bits after other bits are appended that complete no chunk
pub counts_kept : (b ds : List Bool) (cs : List ℕ) → AreCounts b cs → (length b + length ds) / 1024 ≡ length b / 1024 → AreCounts (b ++ ds) cs
unfolding AreCounts ones
counts_kept b ds cs h e =
    let k = h.0 in
    let l : length (b ++ ds) ≡ length b + length ds = length-append b ds in
    (omega arith, λ i m. h.1 i m ∙ sym (ap (λ (x : List Bool). count_by (λ (y : Bool). y) x) (take-append-le (1024 * (i + 1)) b ds (omega arith))))

-- the counts of bits after clear bits are appended
pub counts_run : (b : List Bool) (cs : List ℕ) (m n : ℕ) → AreCounts b cs → n ≡ (length b + m) / 1024 - length cs → AreCounts (b ++ all_false m) (cs ++ repeated n (ones b (length b)))
unfolding AreCounts ones
counts_run b cs m n h en =
    let e = h.0 in
    let lb : length (b ++ all_false m) ≡ length b + m = length-append b (all_false m) ∙ ap (λ (t : ℕ). length b + t) (length-zeros m) in
    let lc : length (cs ++ repeated n (ones b (length b))) ≡ length cs + n = length-append cs (repeated n (ones b (length b))) ∙ ap (λ (t : ℕ). length cs + t) (length-repeated n (ones b (length b))) in (
      omega arith,
      λ i k.
          ⊎_elim (λ (a : i < length cs). get_or_append_left cs (repeated n (ones b (length b))) 0 i a ∙ h.1 i a ∙ sym (ap (λ (x : List Bool). count_by (λ (y : Bool). y) x) (take-append-le (1024 * (i + 1)) b (all_false m) (omega arith))))
          (λ (a : length cs ≤ i).
          get_or-append_right cs (repeated n (ones b (length b))) (length cs) i 0 refl a ∙ get-repeated n (ones b (length b)) (i - length cs) 0 (omega arith) ∙ sym (ones_after b m (1024 * (i + 1)) (omega arith)))
          (cases_lt i (length cs)),
    )

pub falses_more : (x y z : List Bool) (done some : ℕ) → y ≡ x ++ all_false done → z ≡ y ++ truths (bit 0) some → z ≡ x ++ all_false (done + some)
falses_more x y z done some p q =
    q ∙ ap (λ (t : List Bool). t ++ truths (bit 0) some) p ∙ append_assoc x (all_false done) (truths (bit 0) some) ∙ ap (λ (t : List Bool). x ++ t) (ap (λ (t : List Bool). all_false done ++ t) (truths_zero some) ∙ zeros_more done some)

pub counted_more : (w ys zs : List ℕ) (n total : ℕ) → words_in (le_bytes ys) ≡ w ++ repeated n total → zs ≡ ys ++ total ∷ [] → total < 2 ^ 64 → words_in (le_bytes zs) ≡ w ++ repeated (n + 1) total
counted_more w ys zs n total p q l =
    (words_grown ys zs total q l).0 ∙ ap (λ (t : List ℕ). t ++ total ∷ []) p ∙ append_assoc w (repeated n total) (total ∷ []) ∙ ap (λ (t : List ℕ). w ++ t) (repeated_push n total)

-- ---- the next set bit

-- there is no set bit between
pub ones_skip : (b : List Bool) (p q : ℕ) → p ≤ q → q ≤ length b → ((k : ℕ) → p ≤ k → k < q → slice_index_or b k false ≡ false) → ones b q ≡ ones b p
ones_skip b p zero l m h = let e : p ≡ 0 = omega arith in ap (ones b) (sym e)
ones_skip b p (suc q) l m h =
    ⊎_elim (λ (a : p < suc q).
    let e : suc q ≡ q + 1 = omega arith in
    ap (ones b) e ∙ ones_no b q (omega arith) (h q (omega arith) (omega arith)) ∙ ones_skip b p q (omega arith) (omega arith) (λ k u v. h k u (omega arith)))
    (λ (a : suc q ≤ p). let e : p ≡ suc q = omega arith in ap (ones b) (sym e))
    (cases_lt p (suc q))

ones_past : (b : List Bool) (p : ℕ) → length b ≤ p → ones b p ≡ ones b (length b)
ones_past b p l = ap (λ (t : List Bool). ones t p) (sym (append-nil b)) ∙ ones_after b 0 p l

-- the next set bit gives the next offset
pub record NextEnd (b : List Bool) (pos q : ℕ) : Type 0 where
  pub row : slice_get (ends_of 0 b) (ones b pos) ≡ Some (q - ones b pos)
  pub before : ones b q ≡ ones b pos
  pub after : ones b (q + 1) ≡ ones b pos + 1
  pub within : ones b pos ≤ q

pub next_end : (b : List Bool) (pos q : ℕ) → IsNextTrue b pos q → NextEnd b pos q
next_end b pos q h =
    let l : q < length b = set_inside b q h.1 in
    let e : ones b q ≡ ones b pos = ones_skip b pos q h.0 (omega arith) h.2 in
    let f = ends_found 0 b q h.1 in
    let d : 0 + (q - ones b q) ≡ q - ones b pos = omega (arith, e) in
    record {
      row = rw (d, e) at f.0;
      before = e;
      after = ones_yes b q l h.1 ∙ ap (λ (t : ℕ). t + 1) e;
      within = omega (arith, e, f.1);
    }

-- without further set bits there is no offset
pub no_end : (b : List Bool) (pos : ℕ) → AreFalseFrom b pos → ones b pos ≡ length (ends_of 0 b)
no_end b pos h =
    ⊎_elim (λ (l : pos < length b). sym (ones_skip b pos (length b) (omega arith) (omega arith) (λ k u v. h k u)) ∙ ones_ends 0 b)
    (λ (l : length b ≤ pos). ones_past b pos l ∙ ones_ends 0 b)
    (cases_lt pos (length b))

-- the last bit
pub last_read : (b : List Bool) (n : ℕ) (v : Bool) → n ≡ length b → (n ≡ 0 → ⊥) → slice_get (map truth b) (n - 1) ≡ Some (truth v) → v ≡ last_bit true b
last_read b n v e z h =
    let l : 0 < length b = omega arith in
    let k : slice_get b (n - 1) ≡ Some v = truth_back b (n - 1) v h in
    sym (last_bit_is true b l ∙ ap (λ (t : ℕ). slice_index_or b t false) (let d : length b - 1 ≡ n - 1 = omega arith in d) ∙ get_is b (n - 1) v k)
  where
    truth_back : (b : List Bool) (i : ℕ) (v : Bool) → slice_get (map truth b) i ≡ Some (truth v) → slice_get b i ≡ Some v
    truth_back [] i v h = cc
    truth_back (x ∷ b) zero v h = cc
    truth_back (x ∷ b) (suc i) v h = truth_back b i v h

    get_is : (b : List Bool) (i : ℕ) (v : Bool) → slice_get b i ≡ Some v → slice_index_or b i false ≡ v
    get_is [] i v h = cc
    get_is (x ∷ b) zero v h = cc
    get_is (x ∷ b) (suc i) v h = get_is b i v h

-- ---- an iteration over offsets

get_drop : (xs : List ℕ) (i x : ℕ) → slice_get xs i ≡ Some x → drop i xs ≡ x ∷ drop (i + 1) xs
get_drop [] i x h = cc
get_drop (y ∷ ys) zero x h = let e : y ≡ x = cc in rw e refl
get_drop (y ∷ ys) (suc i) x h = let e : suc i + 1 ≡ suc (i + 1) = omega arith in rw e (get_drop ys i x h)

-- a new cursor has all offsets before it
pub ends_begin : (s : Standing) (b : List Bool) (n : ℕ) → s ≡ record { bits = b; pos = 0; word = 0; counts = n } → ends_left (ends_after s) s.word ≡ ends_left (ends_of 0 b) 0
ends_begin s b n e = rw e (let z : ones b 0 ≡ 0 = ones_zero b in rw z refl)

-- the next set bit is the next offset
pub ends_next : (s t : Standing) (q rank : ℕ) → t.bits ≡ s.bits → IsNextTrue s.bits s.pos q → t.pos ≡ q + 1 → rank ≡ ones t.bits t.pos → ends_after s ≡ (q - (rank - 1)) ∷ ends_after t
ends_next s t q rank e h p r =
    let k = next_end s.bits s.pos q h in
    let o : ones t.bits t.pos ≡ ones s.bits s.pos + 1 = ap (λ (b : List Bool). ones b t.pos) e ∙ ap (ones s.bits) p ∙ k.after in
    let d : q - (rank - 1) ≡ q - ones s.bits s.pos = omega (arith, r, o) in
    rw (o, e, d) (get_drop (ends_of 0 s.bits) (ones s.bits s.pos) (q - ones s.bits s.pos) k.row)

pub rank_next : (s t : Standing) (q rank : ℕ) → t.bits ≡ s.bits → IsNextTrue s.bits s.pos q → t.pos ≡ q + 1 → rank ≡ ones t.bits t.pos → (1 ≤ rank) × (rank - 1 ≤ q)
rank_next s t q rank e h p r =
    let k = next_end s.bits s.pos q h in
    let o : ones t.bits t.pos ≡ ones s.bits s.pos + 1 = ap (λ (b : List Bool). ones b t.pos) e ∙ ap (ones s.bits) p ∙ k.after in
    (omega (arith, r, o), omega (arith, r, o, k.within))

-- without further set bits there is no offset
drop_past : (xs : List ℕ) (i : ℕ) → length xs ≤ i → drop i xs ≡ []
drop_past [] zero l = refl
drop_past [] (suc i) l = refl
drop_past (x ∷ xs) zero l = absurd (omega arith)
drop_past (x ∷ xs) (suc i) l = drop_past xs i (omega arith)

pub ends_done : (s t : Standing) → t.bits ≡ s.bits → AreFalseFrom s.bits s.pos → s.pos ≤ t.pos → (ends_after s ≡ []) × (ends_after t ≡ [])
ends_done s t e h l =
    let m = no_end s.bits s.pos h in
    let n = no_end s.bits t.pos (λ k u. h k (omega arith)) in
    (drop_past (ends_of 0 s.bits) (ones s.bits s.pos) (omega (arith, m)), rw e (drop_past (ends_of 0 s.bits) (ones s.bits t.pos) (omega (arith, n))))

-- the same number, if there is any
pub repeated_same : (n x y : ℕ) → (0 < n → x ≡ y) → repeated n x ≡ repeated n y
repeated_same zero x y h = refl
repeated_same (suc n) x y h = ap (repeated (suc n)) (h (omega arith))
