-- Counting set bits.
use Rattle.std.proofs.Common.{◌≡◌, ℕ, zero, suc, ◌+◌, ◌-◌, ◌*◌, ◌/◌, ◌%◌, ◌^◌, ◌<◌, ◌≤◌, Bool, true, false, eqb, List, [], ◌∷◌, ◌++◌, length, take, cond, Some, None, refl, sym, ap, ◌∙◌, subst, ⊎_elim, lit<, arith, add-one, add-zero, add-suc, add_assoc, add_comm}
use Rattle.std.proofs.Math.Path.{ap₂}
use Rattle.std.specs.Prelude.{slice_index, slice_index_or, bit_and, count_ones, count_by, option_map}
use Rattle.std.proofs.lemmas.List.{length-take, take-append-le, length_push, get_or_past}
use Rattle.std.proofs.lemmas.List.Sums.{count_by_more_yes, count_by_more_no, count_by-le-length, sum_by-append}
use Rattle.std.proofs.lemmas.Bool.{cases_lt, cases_Bool, true≢false}
use Rattle.std.proofs.lemmas.Nat.{shr-shr, pow-add, one_shl, and_mask, ones_cat, mod_below, pow_pos, pow_below, mod-pow-add, ones_le_self}
use Rattle.std.proofs.Math.Nat.{mul-le-mul_left}
use lib.Count.{ones as ones_of_number, ones_in}
use Rattle.columnar_bits.specs.Bits.{bit, bit_in, truths, bits_of}
use Rattle.columnar_bits.specs.BitLaws.{bit_in_word, bit_shr, length-truths, get_or-truths}
use Rattle.columnar_sums.specs.Counting.{ones, place, ones_below, CountWords, AreCounts, count_before}

-- one bit, counted
ones_of_bit : (a : ℕ) → a < 2 → count_ones a ≡ cond (eqb a 1) 1 0
unfolding ones_of_number ones_in
ones_of_bit zero h = refl
ones_of_bit (suc zero) h = refl
ones_of_bit (suc (suc a)) h = absurd (omega arith)

-- ---- by the function

pub ones_below_more : (f : ℕ → Bool) (n : ℕ) → ones_below f (n + 1) ≡ ones_below f n + cond (f n) 1 0
unfolding ones_below
ones_below_more f n = ap (ones_below f) (add-one n)

pub ones_below_add : (f g : ℕ → Bool) (n m : ℕ) → ((j : ℕ) → j < m → f (n + j) ≡ g j) → ones_below f (n + m) ≡ ones_below f n + ones_below g m
unfolding ones_below
ones_below_add f g n zero h = ap (ones_below f) (add-zero n) ∙ sym (add-zero (ones_below f n))
ones_below_add f g n (suc m) h =
    ap (ones_below f) (add-suc n m) ∙
    ap₂ (λ (x : ℕ) (y : Bool). x + cond y 1 0) (ones_below_add f g n m (λ j l. h j (omega arith))) (h m (omega arith)) ∙
    add_assoc (ones_below f n) (ones_below g m) (cond (g m) 1 0)

pub ones_below_same : (f g : ℕ → Bool) (n : ℕ) → ((j : ℕ) → j < n → f j ≡ g j) → ones_below f n ≡ ones_below g n
unfolding ones_below
ones_below_same f g zero h = refl
ones_below_same f g (suc n) h = ap₂ (λ (x : ℕ) (y : Bool). x + cond y 1 0) (ones_below_same f g n (λ j l. h j (omega arith))) (h n (omega arith))

-- the number of set bits among the lowest k bits of a number
pub ones_of_mod : (n k : ℕ) → count_ones (n % 2 ^ k) ≡ ones_below (bit n) k
unfolding ones_below bit
ones_of_mod n zero = let e : n % 1 ≡ 0 = omega arith in let l = ones_le_self (n % 1) in omega arith
ones_of_mod n (suc k) =
    let a : ℕ = n / 2 ^ k % 2 in
    let e : n % 2 ^ suc k ≡ a * 2 ^ k + n % 2 ^ k = ap (λ (x : ℕ). n % 2 ^ x) (omega arith) ∙ mod-pow-add n 1 k in
    let l : a < 2 = mod_below (n / 2 ^ k) 2 (lit< tt) in
    ap count_ones e ∙ ones_cat k a (n % 2 ^ k) (mod_below n (2 ^ k) (pow_pos k)) ∙
    ap₂ (λ (x y : ℕ). x + y) (ones_of_bit a l) (ones_of_mod n k) ∙ add_comm (cond (eqb a 1) 1 0) (ones_below (bit n) k)

pub ones_of_low : (n k : ℕ) → k < 64 → count_ones (bit_and n (1 * 2 ^ k % 2 ^ 64 - 1)) ≡ ones_below (bit n) k
ones_of_low n k h = rw (one_shl k 64 h, and_mask) (ones_of_mod n k)

pub ones_below_le : (f : ℕ → Bool) (n : ℕ) → ones_below f n ≤ n
unfolding ones_below
ones_below_le f zero = omega arith
ones_below_le f (suc n) =
    let h = ones_below_le f n in
    let l : cond {A = ℕ} (f n) 1 0 ≤ 1 = elim (f n) as (λ v. cond {A = ℕ} v 1 0 ≤ 1) [ true ↦ omega arith | false ↦ omega arith ] in
    omega arith

-- the set bits before a position in word i
pub ones_word : (ws : List ℕ) (i j : ℕ) → j ≤ 64 → ones_below (bit_in ws) (64 * i + j) ≡ ones_below (bit_in ws) (64 * i) + ones_below (bit (slice_index ws i)) j
ones_word ws i j h = ones_below_add (bit_in ws) (bit (slice_index ws i)) (64 * i) j (λ m l. bit_in_word ws i m (64 * i + m) (omega arith) refl)

pub ones_word_whole : (ws : List ℕ) (i w : ℕ) → w ≡ slice_index ws i → w < 2 ^ 64 → ones_below (bit_in ws) (64 * (i + 1)) ≡ ones_below (bit_in ws) (64 * i) + count_ones w
ones_word_whole ws i w e h =
    let p : 64 * (i + 1) ≡ 64 * i + 64 = omega arith in
    let q : w % 2 ^ 64 ≡ w = omega arith in
    ap (ones_below (bit_in ws)) p ∙ ones_word ws i 64 (omega arith) ∙
    ap (λ (x : ℕ). ones_below (bit_in ws) (64 * i) + x) (ap (λ (x : ℕ). ones_below (bit x) 64) (sym e) ∙ sym (ones_of_mod w 64) ∙ ap count_ones q)

-- ---- by the list

pub ones_zero : (b : List Bool) → ones b 0 ≡ 0
unfolding ones
ones_zero b = refl

pub ones_yes : (b : List Bool) (i : ℕ) → i < length b → slice_index_or b i false ≡ true → ones b (i + 1) ≡ ones b i + 1
unfolding ones
ones_yes b i h e = count_by_more_yes (λ (x : Bool). x) b i false h e

pub ones_no : (b : List Bool) (i : ℕ) → i < length b → slice_index_or b i false ≡ false → ones b (i + 1) ≡ ones b i
unfolding ones
ones_no b i h e = count_by_more_no (λ (x : Bool). x) b i false h e

pub ones_more : (b : List Bool) (i : ℕ) → i < length b → ones b (i + 1) ≡ ones b i + cond (slice_index_or b i false) 1 0
ones_more b i h =
    ⊎_elim (λ (e : slice_index_or b i false ≡ true). ones_yes b i h e ∙ ap (λ (x : Bool). ones b i + cond x 1 0) (sym e))
    (λ (e : slice_index_or b i false ≡ false). ones_no b i h e ∙ sym (add-zero (ones b i)) ∙ ap (λ (x : Bool). ones b i + cond x 1 0) (sym e))
    (cases_Bool (slice_index_or b i false))

pub ones_truths : (f : ℕ → Bool) (n p : ℕ) → p ≤ n → ones (truths f n) p ≡ ones_below f p
unfolding ones_below
ones_truths f n zero h = ones_zero _
ones_truths f n (suc p) h =
    let l : p < length (truths f n) = omega (arith, length-truths f n) in
    ap (ones (truths f n)) (sym (add-one p)) ∙ ones_more (truths f n) p l ∙
    ap₂ (λ (x : ℕ) (y : Bool). x + cond y 1 0) (ones_truths f n p (omega arith)) (get_or-truths f n p false (omega arith))

pub ones_le : (b : List Bool) (p : ℕ) → ones b p ≤ p
unfolding ones
ones_le b p = omega (arith, count_by-le-length (λ (x : Bool). x) (take p b), length-take p b)

-- ---- places

pub ones_true : (b : List Bool) (p : ℕ) → ones (true ∷ b) (suc p) ≡ suc (ones b p)
unfolding ones
ones_true b p = sum_by-append (λ (x : Bool). cond x 1 0) (true ∷ []) (take p b) ∙ add_comm 1 (count_by (λ (x : Bool). x) (take p b)) ∙ add-one _

pub ones_false : (b : List Bool) (p : ℕ) → ones (false ∷ b) (suc p) ≡ ones b p
unfolding ones
ones_false b p = refl

pub place_some : (b : List Bool) (k p : ℕ) → slice_index_or b p false ≡ true → ones b p ≡ k → place b k ≡ Some p
unfolding place ones
place_some [] k p t e = cc t
place_some (true ∷ b) k zero t e = subst (λ (x : ℕ). place (true ∷ b) x ≡ Some 0) e refl
place_some (true ∷ b) k (suc p) t e =
    let q : suc (ones b p) ≡ k = sym (ones_true b p) ∙ e in
    subst (λ (x : ℕ). place (true ∷ b) x ≡ Some (suc p)) q (ap (option_map suc) (place_some b (ones b p) p t refl))
place_some (false ∷ b) k zero t e = cc t
place_some (false ∷ b) k (suc p) t e = let q : ones b p ≡ k = sym (ones_false b p) ∙ e in ap (option_map suc) (place_some b k p t q)

pub place_none : (b : List Bool) (k : ℕ) → ones b (length b) ≤ k → place b k ≡ None
unfolding place ones
place_none [] k e = refl
place_none (false ∷ b) k e = let q : ones b (length b) ≤ k = subst (λ (x : ℕ). x ≤ k) (ones_false b (length b)) e in ap (option_map suc) (place_none b k q)
place_none (true ∷ b) zero e = let q : suc (ones b (length b)) ≤ 0 = subst (λ (x : ℕ). x ≤ 0) (ones_true b (length b)) e in absurd (omega arith)
place_none (true ∷ b) (suc k) e = let r : suc (ones b (length b)) ≤ suc k = subst (λ (x : ℕ). x ≤ suc k) (ones_true b (length b)) e in let q : ones b (length b) ≤ k = omega arith in ap (option_map suc) (place_none b k q)

-- ---- reads

pub kept_more : (before xs : List ℕ) (y : ℕ) → take (length before) xs ≡ before → length before ≤ length xs → take (length before) (xs ++ y ∷ []) ≡ before
kept_more before xs y e h = take-append-le (length before) xs (y ∷ []) h ∙ e

-- ---- counts

pub count_before_is : (ws cs : List ℕ) (i : ℕ) → CountWords ws cs → i ≤ length cs → count_before cs i ≡ ones_below (bit_in ws) (1024 * i)
unfolding CountWords count_before ones_below
count_before_is ws cs zero h l = refl
count_before_is ws cs (suc i) h l = h i (omega arith) ∙ ap (λ (x : ℕ). ones_below (bit_in ws) (1024 * x)) (add-one i)

pub count_before_none : (cs : List ℕ) → count_before cs 0 ≡ 0
unfolding count_before
count_before_none cs = refl

pub count_before_some : (cs : List ℕ) (i : ℕ) → 0 < i → count_before cs i ≡ slice_index cs (i - 1)
unfolding count_before
count_before_some cs zero h = absurd (omega arith)
count_before_some cs (suc i) h = ap (slice_index cs) (omega arith)

-- the counts of bits are those of their words
pub count_words : (ws cs : List ℕ) (t n : ℕ) → n < 64 → AreCounts (bits_of ws t n) cs → CountWords (ws ++ t ∷ []) cs
unfolding CountWords bits_of AreCounts
count_words ws cs t n l h = λ i k.
    h.1 i k ∙ ones_truths (bit_in (ws ++ t ∷ [])) (64 * length ws + n) (1024 * (i + 1)) (omega (arith, h.0, length-truths (bit_in (ws ++ t ∷ [])) (64 * length ws + n)))

pub length_words : (ws : List ℕ) (t : ℕ) → length (ws ++ t ∷ []) ≡ length ws + 1
length_words ws t = length_push ws t

-- ---- halving a word

double : (l : ℕ) → 2 ^ (l + 1) ≡ 2 ^ l + 2 ^ l
double l = let e = pow-add 2 l 1 in omega arith

pub ones_shr : (w p n : ℕ) → ones_below (bit w) (p + n) ≡ ones_below (bit w) p + ones_below (bit (w / 2 ^ p)) n
ones_shr w p n = ones_below_add (bit w) (bit (w / 2 ^ p)) p n (λ j l. sym (bit_shr w p j))

pub halves_start : (w : ℕ) → w < 2 ^ 64 → count_ones w ≡ ones_below (bit w) (2 ^ 6)
halves_start w h = let q : w % 2 ^ 64 ≡ w = omega arith in sym (ap count_ones q) ∙ ones_of_mod w 64

-- the position is in the upper half
pub halves_high : (w k l : ℕ) → k < ones_below (bit w) (2 ^ (l + 1)) → ones_below (bit w) (2 ^ l) ≤ k → k - ones_below (bit w) (2 ^ l) < ones_below (bit (w / 2 ^ (2 ^ l))) (2 ^ l)
halves_high w k l h m =
    let e = ap (ones_below (bit w)) (double l) ∙ ones_shr w (2 ^ l) (2 ^ l) in omega arith

pub halves_rank : (w p h : ℕ) → ones_below (bit w) (p + h) ≡ ones_below (bit w) p + ones_below (bit (w / 2 ^ p)) h
halves_rank w p h = ones_shr w p h

pub count_before_next : (cs : List ℕ) (i : ℕ) → count_before cs (i + 1) ≡ slice_index cs i
unfolding count_before
count_before_next cs i = ap (count_before cs) (add-one i)

-- one more read at least halves the gap
pub halving : (o a b g h n : ℕ) → b ≡ a + 1 → o ≤ a → 2 ^ (a - o) * g ≤ n → 0 < g → 2 * h ≤ g → (2 ^ (b - o) * h ≤ n) × (2 ^ (b - o) ≤ 2 * n + 1)
halving o a b g h n e m s p q =
    let x : ℕ = a - o in
    let d : 2 ^ (b - o) ≡ 2 * 2 ^ x = ap (λ (y : ℕ). 2 ^ y) (let z : b - o ≡ x + 1 = omega arith in z) ∙ double x ∙ (let z : 2 ^ x + 2 ^ x ≡ 2 * 2 ^ x = omega arith in z) in
    let l : 2 ^ x * (2 * h) ≤ 2 ^ x * g = mul-le-mul_left (2 ^ x) q in
    let k : 2 ^ x * 1 ≤ 2 ^ x * g = mul-le-mul_left (2 ^ x) p in
    let r : 2 ^ (b - o) * h ≡ 2 ^ x * (2 * h) = ap (λ (y : ℕ). y * h) d ∙ (omega arith) in
    (omega arith, omega arith)

-- one step of halving, which continues in the upper half
pub record Halved (word p r k n h low rank : ℕ) : Type 0 where
  pub rest : r / 2 ^ h ≡ word / 2 ^ (p + h)
  pub left : k - low < ones_below (bit (r / 2 ^ h)) (2 ^ (n - 1))
  pub before : k - low + ones_below (bit word) (p + h) ≡ rank
  pub within : p + h + 2 ^ (n - 1) ≤ 64

pub halve_up : (word p r k n h low rank : ℕ) → 0 < n → r ≡ word / 2 ^ p → k < ones_below (bit r) (2 ^ n) → k + ones_below (bit word) p ≡ rank → h ≡ 2 ^ (n - 1) → low ≡ ones_below (bit r) h → low ≤ k → p + 2 ^ n ≤ 64 → Halved word p r k n h low rank
halve_up word p r k n h low rank z er hk eb eh el m w =
    let s : n ≡ n - 1 + 1 = omega arith in
    let d : 2 ^ n ≡ h + h = ap (λ (x : ℕ). 2 ^ x) s ∙ double (n - 1) ∙ ap₂ (λ (x y : ℕ). x + y) (sym eh) (sym eh) in
    let q : r / 2 ^ h ≡ word / 2 ^ (p + h) = ap (λ (x : ℕ). x / 2 ^ h) er ∙ shr-shr word p h in
    let a : ones_below (bit r) (2 ^ n) ≡ low + ones_below (bit (r / 2 ^ h)) h = ap (ones_below (bit r)) d ∙ ones_shr r h h ∙ ap (λ (x : ℕ). x + ones_below (bit (r / 2 ^ h)) h) (sym el) in
    let b : ones_below (bit word) (p + h) ≡ ones_below (bit word) p + low = ones_shr word p h ∙ ap (λ (x : ℕ). ones_below (bit word) p + x) (ap (λ (x : ℕ). ones_below (bit x) h) (sym er) ∙ sym el) in
    let c : k - low < ones_below (bit (r / 2 ^ h)) h = omega arith in
    record {
      rest = q;
      left = subst (λ (x : ℕ). k - low < ones_below (bit (r / 2 ^ h)) x) eh c;
      before = omega arith;
      within = omega arith;
    }

-- ---- results of select

pub ones_below_mono : (f : ℕ → Bool) (m n : ℕ) → m ≤ n → ones_below f m ≤ ones_below f n
ones_below_mono f m n h =
    let e : m + (n - m) ≡ n = omega arith in
    let s = sym (ap (ones_below f) e) ∙ ones_below_add f (λ (j : ℕ). f (m + j)) m (n - m) (λ j l. refl) in
    omega arith

-- no count is less than the previous one
pub counts_rise : (ws cs : List ℕ) → CountWords ws cs → (i : ℕ) → i + 1 < length cs → slice_index cs i ≤ slice_index cs (i + 1)
counts_rise ws cs exact i h =
    let a : slice_index cs i ≡ ones_below (bit_in ws) (1024 * (i + 1)) = sym (count_before_next cs i) ∙ count_before_is ws cs (i + 1) exact (omega arith) in
    let b : slice_index cs (i + 1) ≡ ones_below (bit_in ws) (1024 * (i + 1 + 1)) = sym (count_before_next cs (i + 1)) ∙ count_before_is ws cs (i + 1 + 1) exact (omega arith) in
    let m = ones_below_mono (bit_in ws) (1024 * (i + 1)) (1024 * (i + 1 + 1)) (omega arith) in
    omega arith

-- the bit is in word i
pub found_in : (ws : List ℕ) (i w p sum rank : ℕ) → w ≡ slice_index ws i → p < 64 → bit w p ≡ true → ones_below (bit w) p ≡ rank - sum → sum ≤ rank → sum ≡ ones_below (bit_in ws) (64 * i) → (bit_in ws (64 * i + p) ≡ true) × (ones_below (bit_in ws) (64 * i + p) ≡ rank)
found_in ws i w p sum rank e l b o le s =
    let c : ones_below (bit (slice_index ws i)) p ≡ rank - sum = sym (ap (λ (x : ℕ). ones_below (bit x) p) e) ∙ o in
    let d = ones_word ws i p (omega arith) in
    (bit_in_word ws i p (64 * i + p) l refl ∙ sym (ap (λ (x : ℕ). bit x p) e) ∙ b, omega arith)

pub set_inside : (b : List Bool) (i : ℕ) → slice_index_or b i false ≡ true → i < length b
set_inside b i e = ⊎_elim (λ (p : i < length b). p) (λ (p : length b ≤ i). absurd (true≢false (sym e ∙ get_or_past b i false p))) (cases_lt i (length b))

pub counts_length : (b : List Bool) (cs : List ℕ) → AreCounts b cs → length cs ≡ length b / 1024
unfolding AreCounts
counts_length b cs h = h.0
