-- The bits of words, by their index.
use Rattle.std.proofs.Common.{◌≡◌, ℕ, zero, suc, ◌+◌, ◌-◌, ◌*◌, ◌/◌, ◌%◌, ◌^◌, ◌<◌, ◌≤◌, max, Bool, true, false, eqb, cond, List, [], ◌∷◌, ◌++◌, length, map, get_or, take, drop, refl, sym, ap, ◌∙◌, subst, ⊎_elim, lit<, arith, add-zero}
use Rattle.std.proofs.Math.Path.{ap₂}
use Rattle.std.proofs.Math.Seq.{take-add}
use Rattle.std.proofs.lemmas.Bool.{cases_lt, eq-eqb}
use Rattle.std.specs.Int.{bit_at}
use Rattle.std.specs.List.{range_with_len}
use Rattle.std.specs.Prelude.{slice_index, slice_index_or, slice_range, bit_or, bit_and}
use mir.Syntax.{w64}
use Rattle.std.proofs.lemmas.List.{get_or_append_left, get_or_at, get_or-append_right, length-append, length-take, length-drop, length-take-le, get_or-take, get_or-drop, drop-drop, length_push, append_assoc, take_at}
use Rattle.std.proofs.lemmas.List.FromFn.{length-map-range_with_len, get_or-map-range_with_len, map-range_with_len_more, take-map-range_with_len, fill_by_all}
use Rattle.std.proofs.lemmas.Nat.Bits.{shr_and_one, bit_at_set_same, bit_at_set_other, bit_at_above, bit_at_or, bit_at_cat_low, bit_at_cat_high, bit_at-zero}
use Rattle.std.proofs.lemmas.Nat.{one_shl, or_lt, pow_below, pow_pos, pow-add, mod_below, and_mask, shr_split, shr-shr, shr_below, shl_below, shl_whole}
use Rattle.columnar_bits.specs.Bits.{bit, bit_in, truths, bits_of, number_of_bits}

pub length-truths : (f : ℕ → Bool) (n : ℕ) → length (truths f n) ≡ n
unfolding truths
length-truths f n = length-map-range_with_len f 0 n

pub get_or-truths : (f : ℕ → Bool) (n i : ℕ) (d : Bool) → i < n → get_or (truths f n) i d ≡ f i
unfolding truths
get_or-truths f n i d h = get_or-map-range_with_len f 0 n i i d h (omega arith)

pub truths_same : (f g : ℕ → Bool) (n : ℕ) → ((k : ℕ) → k < n → f k ≡ g k) → truths f n ≡ truths g n
unfolding truths
truths_same f g n h =
    fill_by_all g (map f (range_with_len 0 n)) n false (length-map-range_with_len f 0 n)
    (λ k l. get_or-map-range_with_len f 0 n k k false l (omega arith) ∙ h k l)

pub truths_push : (f : ℕ → Bool) (n : ℕ) → truths f (n + 1) ≡ truths f n ++ f n ∷ []
unfolding truths
truths_push f n = map-range_with_len_more f 0 n n (omega arith)

pub take-truths : (f : ℕ → Bool) (n k : ℕ) → k ≤ n → take k (truths f n) ≡ truths f k
unfolding truths
take-truths f n k h = take-map-range_with_len f 0 n k h

-- one more value, if the earlier ones are equal
pub truths_grow : (f g : ℕ → Bool) (n : ℕ) (b : Bool) → ((k : ℕ) → k < n → g k ≡ f k) → g n ≡ b → truths g (n + 1) ≡ truths f n ++ b ∷ []
truths_grow f g n b h e = truths_push g n ∙ ap₂ (λ (x : List Bool) (y : Bool). x ++ y ∷ []) (truths_same g f n h) e

-- ---- words

pub bit_in_word : (ws : List ℕ) (i j k : ℕ) → j < 64 → 64 * i + j ≡ k → bit_in ws k ≡ bit (slice_index ws i) j
unfolding bit_in
bit_in_word ws i j k h e =
    let q : k / 64 ≡ i = omega arith in let r : k % 64 ≡ j = omega arith in
    ap₂ (λ (x y : ℕ). bit (slice_index ws x) y) q r

pub bit_in_front : (ws : List ℕ) (t k : ℕ) → k < 64 * length ws → bit_in (ws ++ t ∷ []) k ≡ bit_in ws k
unfolding bit_in
bit_in_front ws t k h =
    ap (λ (x : ℕ). bit x (k % 64)) (get_or_append_left ws (t ∷ []) 0 (k / 64) (omega arith))

pub bit_in_tail : (ws : List ℕ) (t j k : ℕ) → j < 64 → 64 * length ws + j ≡ k → bit_in (ws ++ t ∷ []) k ≡ bit t j
bit_in_tail ws t j k h e =
    bit_in_word (ws ++ t ∷ []) (length ws) j k h e ∙ ap (λ (x : ℕ). bit x j) (get_or_at ws t [] 0 (length ws) refl)

-- ---- rows

pub length-bits_of : (ws : List ℕ) (t c : ℕ) → length (bits_of ws t c) ≡ 64 * length ws + c
unfolding bits_of
length-bits_of ws t c = length-truths _ _

pub get_or-bits_of : (ws : List ℕ) (t c i : ℕ) → i < 64 * length ws + c → get_or (bits_of ws t c) i false ≡ bit_in (ws ++ t ∷ []) i
unfolding bits_of
get_or-bits_of ws t c i h = get_or-truths _ _ i false h

-- two tails with the same bits below c
pub tail_apart : (ws : List ℕ) (t u c k : ℕ) → c ≤ 64 → k < 64 * length ws + c → ((j : ℕ) → j < c → bit u j ≡ bit t j) → bit_in (ws ++ u ∷ []) k ≡ bit_in (ws ++ t ∷ []) k
tail_apart ws t u c k h l same =
    ⊎_elim (λ (p : k < 64 * length ws). bit_in_front ws u k p ∙ sym (bit_in_front ws t k p))
    (λ (p : 64 * length ws ≤ k).
    let j : ℕ = k - 64 * length ws in let e : 64 * length ws + j ≡ k = omega arith in let lj : j < c = omega arith in
    bit_in_tail ws u j k (omega arith) e ∙ same j lj ∙ sym (bit_in_tail ws t j k (omega arith) e))
    (cases_lt k (64 * length ws))

-- a tail that keeps its first c bits, and gets one more
pub bits_of_grow : (ws : List ℕ) (t u c : ℕ) (b : Bool) → c < 64 → ((j : ℕ) → j < c → bit u j ≡ bit t j) → bit u c ≡ b → bits_of ws u (c + 1) ≡ bits_of ws t c ++ b ∷ []
unfolding bits_of
bits_of_grow ws t u c b h same last =
    subst (λ (n : ℕ). truths (bit_in (ws ++ u ∷ [])) n ≡ truths (bit_in (ws ++ t ∷ [])) (64 * length ws + c) ++ b ∷ []) (let e : 64 * length ws + c + 1 ≡ 64 * length ws + (c + 1) = omega arith in e)
    (truths_grow (bit_in (ws ++ t ∷ [])) (bit_in (ws ++ u ∷ [])) (64 * length ws + c) b
    (λ k l. tail_apart ws t u c k (omega arith) l same)
    (bit_in_tail ws u c (64 * length ws + c) h refl ∙ last))

-- a whole tail is one more word
pub bits_of_carry : (ws : List ℕ) (t u : ℕ) → bits_of (ws ++ t ∷ []) u 0 ≡ bits_of ws t 64
unfolding bits_of
bits_of_carry ws t u =
    let e : 64 * length (ws ++ t ∷ []) + 0 ≡ 64 * length ws + 64 = omega (arith, length-append ws (t ∷ [])) in
    ap (λ (n : ℕ). truths (bit_in (ws ++ t ∷ [] ++ u ∷ [])) n) e ∙
    truths_same (bit_in (ws ++ t ∷ [] ++ u ∷ [])) (bit_in (ws ++ t ∷ [])) (64 * length ws + 64)
    (λ k l. bit_in_front (ws ++ t ∷ []) u k (omega (arith, length-append ws (t ∷ []))))

-- ---- one more bit

pub bit_set : (t c : ℕ) → c < 64 → bit (bit_or t (1 * 2 ^ c % 2 ^ 64)) c ≡ true
unfolding bit
bit_set t c h = eq-eqb _ 1 (bit_at_set_same w64 t c h)

pub bit_kept : (t c j : ℕ) → c < 64 → j < c → bit (bit_or t (1 * 2 ^ c % 2 ^ 64)) j ≡ bit t j
unfolding bit
bit_kept t c j h l = ap (λ (x : ℕ). eqb x 1) (bit_at_set_other w64 t c h j (omega arith))

pub bit_above : (t c j : ℕ) → t < 2 ^ c → c ≤ j → bit t j ≡ false
unfolding bit
bit_above t c j h l = ap (λ (x : ℕ). eqb x 1) (bit_at_above t c j h l)

pub set_below : (t c : ℕ) → c < 64 → t < 2 ^ c → bit_or t (1 * 2 ^ c % 2 ^ 64) < 2 ^ (c + 1)
set_below t c h l =
    let p : 1 * 2 ^ c % 2 ^ 64 ≡ 2 ^ c = one_shl c 64 h in let d : 2 ^ c < 2 ^ (c + 1) = pow_below c (c + 1) (omega arith) in
    rw p (or_lt (c + 1) t (2 ^ c) (omega arith) d)

pub below_more_bits : (t c : ℕ) → t < 2 ^ c → t < 2 ^ (c + 1)
below_more_bits t c l = let d : 2 ^ c < 2 ^ (c + 1) = pow_below c (c + 1) (omega arith) in omega arith

pub bit_mod : (n k j : ℕ) → j < k → bit (n % 2 ^ k) j ≡ bit n j
unfolding bit
bit_mod n k j h =
    ap (λ (x : ℕ). eqb x 1) (sym (bit_at_cat_low (n / 2 ^ k) k (n % 2 ^ k) j h) ∙ ap (λ (x : ℕ). bit_at x j) (shr_split n k))

-- `n & ((1 << k) - 1)`
pub bit_low : (n k j : ℕ) → k < 64 → j < k → bit (bit_and n (1 * 2 ^ k % 2 ^ 64 - 1)) j ≡ bit n j
bit_low n k j h l = rw (one_shl k 64 h, and_mask) (bit_mod n k j l)

pub low_below : (n k : ℕ) → k < 64 → bit_and n (1 * 2 ^ k % 2 ^ 64 - 1) < 2 ^ k
low_below n k h = rw (one_shl k 64 h, and_mask) (mod_below n (2 ^ k) (pow_pos k))

-- the test `(n >> i) & 1 == 1`
pub bit_shown : (n i : ℕ) → eqb (bit_and (n / 2 ^ i) 1) 1 ≡ bit n i
unfolding bit
bit_shown n i = ap (λ (x : ℕ). eqb x 1) (shr_and_one n i)

pub bits_of_cut : (ws : List ℕ) (t c u n : ℕ) → n ≤ 64 * length ws + c → c < 64 → ((j : ℕ) → j < n % 64 → bit u j ≡ bit (slice_index (ws ++ t ∷ []) (n / 64)) j) → bits_of (take (n / 64) ws) u (n % 64) ≡ take n (bits_of ws t c)
unfolding bits_of
bits_of_cut ws t c u n h l same =
    let q : n / 64 ≤ length ws = omega arith in
    let lq : length (take (n / 64) ws) ≡ n / 64 = length-take-le (n / 64) ws q in
    let e : 64 * length (take (n / 64) ws) + n % 64 ≡ n = omega arith in
    ap (λ (m : ℕ). truths (bit_in (take (n / 64) ws ++ u ∷ [])) m) e ∙
    truths_same (bit_in (take (n / 64) ws ++ u ∷ [])) (bit_in (ws ++ t ∷ [])) n (λ k lk.
    ⊎_elim (λ (p : k < 64 * (n / 64)).
    let r : k / 64 < n / 64 = omega arith in
    bit_in_front (take (n / 64) ws) u k (omega arith) ∙
    bit_in_word (take (n / 64) ws) (k / 64) (k % 64) k (omega arith) (omega arith) ∙
    ap (λ (x : ℕ). bit x (k % 64)) (get_or-take (n / 64) ws (k / 64) 0 r) ∙
    sym (bit_in_word ws (k / 64) (k % 64) k (omega arith) (omega arith)) ∙
    sym (bit_in_front ws t k (omega arith)))
    (λ (p : 64 * (n / 64) ≤ k).
    let j : ℕ = k - 64 * (n / 64) in
    bit_in_tail (take (n / 64) ws) u j k (omega arith) (omega arith) ∙ same j (omega arith) ∙
    sym (bit_in_word (ws ++ t ∷ []) (n / 64) j k (omega arith) (omega arith)))
    (cases_lt k (64 * (n / 64)))) ∙
    sym (take-truths (bit_in (ws ++ t ∷ [])) (64 * length ws + c) n h)

pub pow_le : (i j : ℕ) → i ≤ j → 2 ^ i ≤ 2 ^ j
pow_le i j h = ⊎_elim (λ (p : i < j). let l = pow_below i j p in omega arith) (λ (p : j ≤ i). let e : i ≡ j = omega arith in let d = ap (λ (x : ℕ). 2 ^ x) e in omega arith) (cases_lt i j)

bit_at_mod : (n k j : ℕ) → j < k → bit_at (n % 2 ^ k) j ≡ bit_at n j
bit_at_mod n k j h = sym (bit_at_cat_low (n / 2 ^ k) k (n % 2 ^ k) j h) ∙ ap (λ (x : ℕ). bit_at x j) (shr_split n k)

shl_low : (n k j : ℕ) → j < k → j < 64 → bit_at (n * 2 ^ k % 2 ^ 64) j ≡ 0
shl_low n k j h l = bit_at_mod (n * 2 ^ k) 64 j l ∙ ap (λ (x : ℕ). bit_at x j) (sym (add-zero (n * 2 ^ k))) ∙ bit_at_cat_low n k 0 j h ∙ bit_at-zero j

shl_high : (n k j : ℕ) → k ≤ j → j < 64 → bit_at (n * 2 ^ k % 2 ^ 64) j ≡ bit_at n (j - k)
shl_high n k j h l = bit_at_mod (n * 2 ^ k) 64 j l ∙ ap (λ (x : ℕ). bit_at x j) (sym (add-zero (n * 2 ^ k))) ∙ bit_at_cat_high n k 0 j (pow_pos k) h

-- `low | high << at`
pub join_low : (low high k j : ℕ) → k < 64 → j < k → bit (bit_or low (high * 2 ^ k % 2 ^ 64)) j ≡ bit low j
unfolding bit
join_low low high k j h l =
    let z : bit_at (high * 2 ^ k % 2 ^ 64) j ≡ 0 = shl_low high k j l (omega arith) in
    ap (λ (x : ℕ). eqb x 1) (bit_at_or low (high * 2 ^ k % 2 ^ 64) j ∙ ap (λ (x : ℕ). max (bit_at low j) x) z ∙ (omega arith))

pub join_high : (low high k j : ℕ) → low < 2 ^ k → k ≤ j → j < 64 → bit (bit_or low (high * 2 ^ k % 2 ^ 64)) j ≡ bit high (j - k)
unfolding bit
join_high low high k j b l h =
    let z : bit_at low j ≡ 0 = bit_at_above low k j b l in
    ap (λ (x : ℕ). eqb x 1) (bit_at_or low (high * 2 ^ k % 2 ^ 64) j ∙ ap₂ (λ (x y : ℕ). max x y) z (shl_high high k j l h) ∙ (omega arith))

pub join_below : (low high k m : ℕ) → k < 64 → low < 2 ^ k → high < 2 ^ m → k + m ≤ 64 → bit_or low (high * 2 ^ k % 2 ^ 64) < 2 ^ (k + m)
join_below low high k m h b q l =
    let e : m + k ≡ k + m = omega arith in
    let s : high * 2 ^ k < 2 ^ (k + m) = subst (λ (x : ℕ). high * 2 ^ k < 2 ^ x) e (shl_below high m k q) in
    let t : high * 2 ^ k % 2 ^ 64 ≡ high * 2 ^ k = shl_whole high m k 64 q (omega arith) in
    let u : low < 2 ^ (k + m) = omega (arith, pow_le k (k + m) (omega arith)) in
    or_lt (k + m) low (high * 2 ^ k % 2 ^ 64) u (subst (λ (x : ℕ). x < 2 ^ (k + m)) (sym t) s)

pub bit_shr : (n s j : ℕ) → bit (n / 2 ^ s) j ≡ bit n (s + j)
unfolding bit
bit_shr n s j = ap (λ (x : ℕ). eqb (x % 2) 1) (shr-shr n s j)

-- ---- lists of bit_in values

pub truths_append : (f g h : ℕ → Bool) (n m : ℕ) → ((k : ℕ) → k < n → h k ≡ f k) → ((j : ℕ) → j < m → h (n + j) ≡ g j) → truths h (n + m) ≡ truths f n ++ truths g m
unfolding truths
truths_append f g h n m p q =
    let xs : List Bool = truths f n in let ys : List Bool = truths g m in
    let lx : length xs ≡ n = length-truths f n in
    sym (fill_by_all h (xs ++ ys) (n + m) false (length-append xs ys ∙ ap₂ (λ (x y : ℕ). x + y) lx (length-truths g m))
    (λ k l. ⊎_elim (λ (a : k < n). get_or_append_left xs ys false k (omega arith) ∙ get_or-truths f n k false a ∙ sym (p k a))
    (λ (a : n ≤ k).
    let e : n + (k - n) ≡ k = omega arith in
    get_or-append_right xs ys n k false lx a ∙ get_or-truths g m (k - n) false (omega arith) ∙ sym (q (k - n) (omega arith)) ∙ ap h e)
    (cases_lt k n)))

pub range_truths : (xs : List Bool) (g : ℕ → Bool) (p c : ℕ) → p + c ≤ length xs → ((j : ℕ) → j < c → slice_index_or xs (p + j) false ≡ g j) → truths g c ≡ slice_range xs p (p + c)
unfolding truths
range_truths xs g p c h q =
    let e : p + c - p ≡ c = omega arith in
    let l : length (slice_range xs p (p + c)) ≡ c = omega (arith, length-take (p + c - p) (drop p xs), length-drop p xs) in
    sym (fill_by_all g (slice_range xs p (p + c)) c false l
    (λ k lk. get_or-take (p + c - p) (drop p xs) k false (omega arith) ∙ get_or-drop p xs k false ∙ q k lk))

pub range_split : (xs : List Bool) (a b c : ℕ) → a ≤ b → b ≤ c → slice_range xs a b ++ slice_range xs b c ≡ slice_range xs a c
range_split xs a b c h l =
    let e : c - a ≡ (b - a) + (c - b) = omega arith in let d : a + (b - a) ≡ b = omega arith in
    sym (ap (λ (n : ℕ). take n (drop a xs)) e ∙ take-add (b - a) (c - b) (drop a xs) ∙
    ap (λ (y : List Bool). take (b - a) (drop a xs) ++ take (c - b) y) (drop-drop (b - a) a xs ∙ ap (λ (n : ℕ). drop n xs) d))

-- ---- a column that takes several bits

pub bits_of_more : (ws : List ℕ) (t u c g n m : ℕ) → c < 64 → n ≡ c + m → n ≤ 64 → ((j : ℕ) → j < c → bit u j ≡ bit t j) → ((j : ℕ) → j < m → bit u (c + j) ≡ bit g j) → bits_of ws u n ≡ bits_of ws t c ++ truths (bit g) m
unfolding bits_of
bits_of_more ws t u c g n m h e l same more =
    let w : 64 * length ws + n ≡ 64 * length ws + c + m = omega arith in
    ap (λ (x : ℕ). truths (bit_in (ws ++ u ∷ [])) x) w ∙
    truths_append (bit_in (ws ++ t ∷ [])) (bit g) (bit_in (ws ++ u ∷ [])) (64 * length ws + c) m
    (λ k lk. tail_apart ws t u c k (omega arith) lk same)
    (λ j lj. bit_in_tail ws u (c + j) (64 * length ws + c + j) (omega arith) (omega arith) ∙ more j lj)

-- and completes a word
pub bits_of_spill : (ws : List ℕ) (t u r c g n m : ℕ) → c < 64 → n + 64 ≡ c + m → m ≤ 64 → ((j : ℕ) → j < c → bit u j ≡ bit t j) → ((j : ℕ) → c ≤ j → j < 64 → bit u j ≡ bit g (j - c)) → ((j : ℕ) → j < n → bit r j ≡ bit g (j + (64 - c))) → bits_of (ws ++ u ∷ []) r n ≡ bits_of ws t c ++ truths (bit g) m
unfolding bits_of
bits_of_spill ws t u r c g n m h e l same more rest =
    let len : length (ws ++ u ∷ []) ≡ length ws + 1 = length_push ws u in
    let w : 64 * length (ws ++ u ∷ []) + n ≡ 64 * length ws + c + m = omega arith in
    ap (λ (x : ℕ). truths (bit_in (ws ++ u ∷ [] ++ r ∷ [])) x) w ∙
    truths_append (bit_in (ws ++ t ∷ [])) (bit g) (bit_in (ws ++ u ∷ [] ++ r ∷ [])) (64 * length ws + c) m
    (λ k lk. bit_in_front (ws ++ u ∷ []) r k (omega arith) ∙ tail_apart ws t u c k (omega arith) lk same)
    (λ j lj. ⊎_elim (λ (p : c + j < 64).
    let d : c + j - c ≡ j = omega arith in
    bit_in_front (ws ++ u ∷ []) r (64 * length ws + c + j) (omega arith) ∙ bit_in_tail ws u (c + j) (64 * length ws + c + j) p (omega arith) ∙ more (c + j) (omega arith) p ∙ ap (bit g) d)
    (λ (p : 64 ≤ c + j).
    let i : ℕ = c + j - 64 in let d : i + (64 - c) ≡ j = omega arith in
    bit_in_tail (ws ++ u ∷ []) r i (64 * length ws + c + j) (omega arith) (omega arith) ∙ rest i (omega arith) ∙ ap (bit g) d)
    (cases_lt (c + j) 64))

-- the bits of `bits` above its lowest 64 - c
pub spill_bit : (g c j : ℕ) → 0 < c → c < 64 → bit (g / 2 ^ (64 - c)) j ≡ bit g (j + (64 - c))
spill_bit g c j h l = let e : 64 - c + j ≡ j + (64 - c) = omega arith in bit_shr g (64 - c) j ∙ ap (bit g) e

pub spill_below : (g c m n : ℕ) → g < 2 ^ m → n + 64 ≡ c + m → c < 64 → g / 2 ^ (64 - c) < 2 ^ n
spill_below g c m n h e l = let d : n + (64 - c) ≡ m = omega arith in shr_below g n (64 - c) (subst (λ (x : ℕ). g < 2 ^ x) (sym d) h)

pub high_part : (n s : ℕ) → n < 2 ^ 64 → s ≤ 64 → n / 2 ^ s < 2 ^ (64 - s)
high_part n s h l = let e : 64 - s + s ≡ 64 = omega arith in shr_below n (64 - s) s (subst (λ (x : ℕ). n < 2 ^ x) (sym e) h)

-- ---- a bulk copy

pub range_none : (xs : List Bool) (a : ℕ) → slice_range xs a a ≡ []
range_none xs a = let e : a - a ≡ 0 = omega arith in ap (λ (n : ℕ). take n (drop a xs)) e

pub copy_more : (new old mid xs : List Bool) (w : ℕ → Bool) (a b c n : ℕ) → mid ≡ old ++ slice_range xs a b → new ≡ mid ++ truths w n → truths w n ≡ slice_range xs b (b + n) → c ≡ b + n → a ≤ b → new ≡ old ++ slice_range xs a c
copy_more new old mid xs w a b c n em en et ec h =
    en ∙ ap₂ (λ (x y : List Bool). x ++ y) em et ∙ append_assoc old (slice_range xs a b) (slice_range xs b (b + n)) ∙
    ap (λ (y : List Bool). old ++ y) (range_split xs a b (b + n) h (omega arith) ∙ ap (slice_range xs a) (sym ec))

pub cut_back : (now old more : List Bool) (n : ℕ) → now ≡ old ++ more → n ≡ length old → take n now ≡ old
cut_back now old more n e l = ap (take n) e ∙ take_at old more n (sym l)

-- ---- numbers

truths_suc : (f g : ℕ → Bool) (n : ℕ) → ((j : ℕ) → f (1 + j) ≡ g j) → truths f (suc n) ≡ f 0 ∷ truths g n
unfolding truths
truths_suc f g n h =
    ap (λ (x : List Bool). f 0 ∷ x) (fill_by_all g (map f (range_with_len (0 + 1) n)) n false (length-map-range_with_len f 1 n) (λ k l. get_or-map-range_with_len f 1 n k (1 + k) false l refl ∙ h k))

of : (a : ℕ) → a < 2 → cond {A = ℕ} (eqb a 1) 1 0 ≡ a
of zero h = refl
of (suc zero) h = refl
of (suc (suc a)) h = absurd (omega arith)

low_bit : (n : ℕ) → cond {A = ℕ} (bit n 0) 1 0 ≡ n % 2
unfolding bit
low_bit n = let e : n / 1 % 2 ≡ n % 2 = omega arith in ap (λ (x : ℕ). cond {A = ℕ} (eqb x 1) 1 0) e ∙ of (n % 2) (mod_below n 2 (lit< tt))

pub number_back : (n c : ℕ) → n < 2 ^ c → number_of_bits (truths (bit n) c) ≡ n
unfolding number_of_bits truths
number_back n zero h = omega arith
number_back n (suc c) h =
    let d : 2 ^ suc c ≡ 2 * 2 ^ c = ap (λ (x : ℕ). 2 ^ x) (let z : suc c ≡ c + 1 = omega arith in z) ∙ pow-add 2 c 1 ∙ (let z : 2 ^ c * 2 ≡ 2 * 2 ^ c = omega arith in z) in
    let l : n / 2 < 2 ^ c = omega arith in
    ap number_of_bits (truths_suc (bit n) (bit (n / 2)) c (λ j. sym (bit_shr n 1 j))) ∙
    ap₂ (λ (x y : ℕ). x + 2 * y) (low_bit n) (number_back (n / 2) c l) ∙ (omega arith)

pub bits_number : (n c : ℕ) (bs : List Bool) → n < 2 ^ c → truths (bit n) c ≡ bs → n ≡ number_of_bits bs
bits_number n c bs h e = sym (number_back n c h) ∙ ap number_of_bits e

-- the lowest k bits cleared
pub cleared_low : (n k j : ℕ) → k < 64 → j < k → bit (n / 2 ^ k * 2 ^ k % 2 ^ 64) j ≡ false
unfolding bit
cleared_low n k j h l = ap (λ (x : ℕ). eqb x 1) (shl_low (n / 2 ^ k) k j l (omega arith))

pub cleared_high : (n k j : ℕ) → k ≤ j → j < 64 → bit (n / 2 ^ k * 2 ^ k % 2 ^ 64) j ≡ bit n j
unfolding bit
cleared_high n k j h l =
    let e : k + (j - k) ≡ j = omega arith in
    ap (λ (x : ℕ). eqb x 1) (shl_high (n / 2 ^ k) k j h l) ∙ bit_shr n k (j - k) ∙ ap (bit n) e
