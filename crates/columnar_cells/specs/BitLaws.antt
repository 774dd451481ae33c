-- Writes of a bit.
use Rattle.std.proofs.Common.{ℕ, ◌≡◌, ◌<◌, ◌≤◌, ◌+◌, ◌*◌, ◌/◌, ◌%◌, ◌^◌, ◌-◌, Bool, true, false, eqb, List, [], ◌∷◌, ◌++◌, length, map, get_or, refl, ap, sym, ◌∙◌, ⊎_elim, arith}
use Rattle.std.specs.Prelude.{slice_set, slice_index, bit_or, bit_and}
use Rattle.std.proofs.lemmas.Nat.{one_shl, or_lt, pow_below}
use Rattle.std.proofs.lemmas.Nat.Bits.{bit_at_set_other, bit_at_clear_same, bit_at_clear_other}
use Rattle.std.specs.Int.{to_le_bytes, from_le_bytes, w64}
use Rattle.std.proofs.lemmas.Bool.{cases_eq}
use Rattle.std.proofs.lemmas.List.{map-set, length-set, length_push, get_or_append_left, get_or-set_same, get_or-set_other, get_or_at, set-append_left}
use Rattle.std.proofs.lemmas.List.FromFn.{fill_by_all}
use Rattle.columnar_core.specs.Row.{truth}
use Rattle.columnar_core.specs.Format.{both, slice, IsSound}
use Rattle.columnar_core.specs.WordViews.{words_in, le_bytes, bit_words}
use Rattle.columnar_core.specs.WordViewLaws.{length-words_in, length-le_bytes, words_back, word_back, word_of_words}
use Rattle.columnar_bits.specs.Bits.{bit, bit_in, truths, bits_of}
use Rattle.columnar_bits.specs.BitLaws.{length-truths, get_or-truths, bit_in_word, bit_set}
use Rattle.columnar_bits.specs.BoolColumns.{bools_format, bits_in, last_word, last_count, SoundBools}
use Rattle.columnar_bits.specs.BoolLaws.{bits_length, length-bools, bools_parts, bools_sound}
use Rattle.columnar_cells.specs.Wrote.{Wrote, HasBit}

pub set_true : (w k : ℕ) → k < 64 → HasBit (bit_or w (1 * 2 ^ k % 2 ^ 64)) w k true
unfolding bit
set_true w k h = (bit_set w k h, λ j l n. ap (λ (x : ℕ). eqb x 1) (bit_at_set_other w64 w k h j n))

pub set_false : (w k : ℕ) → k < 64 → HasBit (bit_and w (2 ^ 64 - 1 - 1 * 2 ^ k % 2 ^ 64)) w k false
unfolding bit
set_false w k h = (ap (λ (x : ℕ). eqb x 1) (bit_at_clear_same w64 w k h), λ j l n. ap (λ (x : ℕ). eqb x 1) (bit_at_clear_other w64 w k h j l n))

pub set_below : (w k n : ℕ) → k < 64 → w < 2 ^ n → k < n → bit_or w (1 * 2 ^ k % 2 ^ 64) < 2 ^ n
set_below w k n h l m = rw (one_shl k 64 h) (or_lt n w (2 ^ k) l (pow_below k n m))

-- bit k after bit i was written, if u is the word that has bit i
bit_after : (ws : List ℕ) (i u : ℕ) (v : Bool) (n k : ℕ) → i / 64 < length ws → i < n → k < n → HasBit u (slice_index ws (i / 64)) (i % 64) v → get_or (slice_set (truths (bit_in ws) n) i v) k false ≡ bit_in (slice_set ws (i / 64) u) k
bit_after ws i u v n k l m h s = ⊎_elim (λ e. same e) (λ e. other e) (cases_eq k i)
  where
    same : k ≡ i → get_or (slice_set (truths (bit_in ws) n) i v) k false ≡ bit_in (slice_set ws (i / 64) u) k
    same e =
        let f : i < length (truths (bit_in ws) n) = omega (arith, m, length-truths (bit_in ws) n) in
        rw e (get_or-set_same (truths (bit_in ws) n) i v false f ∙ (sym s.0 ∙ sym (bit_in_word (slice_set ws (i / 64) u) (i / 64) (i % 64) i (omega arith) (omega arith) ∙ ap (λ (x : ℕ). bit x (i % 64)) (get_or-set_same ws (i / 64) u 0 l))))

    elsewhere : (k ≡ i → ⊥) → bit_in ws k ≡ bit_in (slice_set ws (i / 64) u) k
    elsewhere e = ⊎_elim
        (λ q. bit_in_word ws (i / 64) (k % 64) k (omega arith) (omega (arith, q)) ∙ (sym (s.1 (k % 64) (omega arith) (λ r. e (omega (arith, q, r)))) ∙ sym (bit_in_word (slice_set ws (i / 64) u) (i / 64) (k % 64) k (omega arith) (omega (arith, q)) ∙ ap (λ (x : ℕ). bit x (k % 64)) (get_or-set_same ws (i / 64) u 0 l))))
        (λ q. bit_in_word ws (k / 64) (k % 64) k (omega arith) (omega arith) ∙ sym (bit_in_word (slice_set ws (i / 64) u) (k / 64) (k % 64) k (omega arith) (omega arith) ∙ ap (λ (x : ℕ). bit x (k % 64)) (get_or-set_other ws (i / 64) (k / 64) u 0 q)))
        (cases_eq (k / 64) (i / 64))

    other : (k ≡ i → ⊥) → get_or (slice_set (truths (bit_in ws) n) i v) k false ≡ bit_in (slice_set ws (i / 64) u) k
    other e = get_or-set_other (truths (bit_in ws) n) i k v false e ∙ (get_or-truths (bit_in ws) n k false h ∙ elsewhere e)

truths_set : (ws : List ℕ) (i u : ℕ) (v : Bool) (n : ℕ) → i / 64 < length ws → i < n → HasBit u (slice_index ws (i / 64)) (i % 64) v → truths (bit_in (slice_set ws (i / 64) u)) n ≡ slice_set (truths (bit_in ws) n) i v
unfolding truths
truths_set ws i u v n l m s = sym (fill_by_all (bit_in (slice_set ws (i / 64) u)) (slice_set (truths (bit_in ws) n) i v) n false (length-set (truths (bit_in ws) n) i v ∙ length-truths (bit_in ws) n) (λ k h. bit_after ws i u v n k l m h s))

bits_set : (a b a' b' : List ℕ) (i u : ℕ) (v : Bool) → length (words_in a') ≡ length (words_in a) → last_count b' ≡ last_count b → bit_words a' b' ≡ slice_set (bit_words a b) (i / 64) u → i / 64 < length (bit_words a b) → i < 64 * length (words_in a) + last_count b → HasBit u (slice_index (bit_words a b) (i / 64)) (i % 64) v → bits_in a' b' ≡ slice_set (bits_in a b) i v
unfolding bits_of
bits_set a b a' b' i u v n c e m k h = rw (n, c, e) (truths_set (bit_words a b) i u v (64 * length (words_in a) + last_count b) m k h)

-- One of the words, possibly the last one, is u.
bit_wrote : {a b a' b' : List ℕ} (i u : ℕ) (v : Bool) → SoundBools a b → i < length (bits_in a b) → length a' ≡ length a → length b' ≡ length b → bit_words a' b' ≡ slice_set (bit_words a b) (i / 64) u → last_count b' ≡ last_count b → last_word b' < 2 ^ last_count b → HasBit u (slice_index (bit_words a b) (i / 64)) (i % 64) v → Wrote bools_format (both (slice a) (slice b)) (both (slice a') (slice b')) i (truth v)
bit_wrote {a} {b} {a'} {b'} i u v s l la lb e c clear h =
    let n : length (words_in a') ≡ length (words_in a) = omega (arith, la, length-words_in a, length-words_in a') in
    let t = length_push (words_in a) (last_word b) in
    let m : i / 64 < length (bit_words a b) = omega (arith, s.few, l, bits_length a b, t) in
    let k : i < 64 * length (words_in a) + last_count b = omega (arith, l, bits_length a b) in
    let bits : bits_in a' b' ≡ slice_set (bits_in a b) i v = bits_set a b a' b' i u v n c e m k h in
    record {
      sound = bools_sound (record { whole = rw la s.whole; two = lb ∙ s.two; few = rw c s.few; clear = rw c clear; short = rw (n, c) s.short });
      rows = ap (map truth) bits ∙ map-set truth (bits_in a b) i v;
      lengths_same = rw (la, lb) refl;
    }

-- the words after word q was set to u
words_set : (xs : List ℕ) (q u : ℕ) → u < 2 ^ 64 → words_in (le_bytes (slice_set xs q u)) ≡ slice_set (words_in (le_bytes xs)) q u
words_set xs q u h = words_back (slice_set xs q u) ∙ (map-set (λ n. from_le_bytes w64 (to_le_bytes w64 n)) xs q u ∙ (rw (words_back xs, word_back u h) refl))

length_set : (xs : List ℕ) (q u : ℕ) → length (le_bytes (slice_set xs q u)) ≡ length (le_bytes xs)
length_set xs q u = length-le_bytes (slice_set xs q u) ∙ (ap (λ n. 8 * n) (length-set xs q u) ∙ sym (length-le_bytes xs))

-- a write to a bit of a whole word
pub whole_bit : (xs tail : List ℕ) (i w u : ℕ) (v : Bool) → IsSound bools_format (both (slice (le_bytes xs)) (slice (le_bytes tail))) → i < length (map truth (bits_in (le_bytes xs) (le_bytes tail))) → i / 64 < length xs → w ≡ slice_index xs (i / 64) → w < 2 ^ 64 → u < 2 ^ 64 → HasBit u w (i % 64) v → Wrote bools_format (both (slice (le_bytes xs)) (slice (le_bytes tail))) (both (slice (le_bytes (slice_set xs (i / 64) u))) (slice (le_bytes tail))) i (truth v)
whole_bit xs tail i w u v s l m e lw lu h =
    let p = bools_parts s in
    let n : i / 64 < length (words_in (le_bytes xs)) = omega (arith, m, length-words_in (le_bytes xs), length-le_bytes xs) in
    let z = last_word (le_bytes tail) in
    let f : slice_index (bit_words (le_bytes xs) (le_bytes tail)) (i / 64) ≡ w = get_or_append_left (words_in (le_bytes xs)) (z ∷ []) 0 (i / 64) n ∙ word_of_words xs (i / 64) w m e lw in
    bit_wrote i u v p (omega (arith, l, length-bools (le_bytes xs) (le_bytes tail), bits_length (le_bytes xs) (le_bytes tail))) (length_set xs (i / 64) u) refl
    (ap (λ ws. ws ++ z ∷ []) (words_set xs (i / 64) u lu) ∙ sym (set-append_left (words_in (le_bytes xs)) (z ∷ []) (i / 64) u n)) refl p.clear (rw f h)

-- a write to a bit of the last word
pub tail_bit : (xs tail : List ℕ) (i w u : ℕ) (v : Bool) → IsSound bools_format (both (slice (le_bytes xs)) (slice (le_bytes tail))) → i < length (map truth (bits_in (le_bytes xs) (le_bytes tail))) → length xs ≤ i / 64 → w ≡ slice_index tail 0 → w < 2 ^ 64 → u < 2 ^ 64 → HasBit u w (i % 64) v → ((n : ℕ) → w < 2 ^ n → i % 64 < n → n ≤ 64 → u < 2 ^ n) → Wrote bools_format (both (slice (le_bytes xs)) (slice (le_bytes tail))) (both (slice (le_bytes xs)) (slice (le_bytes (slice_set tail 0 u)))) i (truth v)
tail_bit xs tail i w u v s l m e lw lu h below =
    let p = bools_parts s in
    let few = p.few in
    let t : length tail ≡ 2 = omega (arith, p.two, length-le_bytes tail) in
    let b : length (words_in (le_bytes tail)) ≡ 2 = omega (arith, p.two, length-words_in (le_bytes tail)) in
    let z : last_word (le_bytes tail) ≡ w = word_of_words tail 0 w (omega (arith, t)) e lw in
    let k : i < length (bits_in (le_bytes xs) (le_bytes tail)) = omega (arith, l, length-bools (le_bytes xs) (le_bytes tail), bits_length (le_bytes xs) (le_bytes tail)) in
    let r : i < 64 * length (words_in (le_bytes xs)) + last_count (le_bytes tail) = omega (arith, k, bits_length (le_bytes xs) (le_bytes tail)) in
    let q : i / 64 ≡ length (words_in (le_bytes xs)) = omega (arith, m, few, r, length-words_in (le_bytes xs), length-le_bytes xs) in
    let f : slice_index (bit_words (le_bytes xs) (le_bytes tail)) (i / 64) ≡ w = rw q (get_or_at (words_in (le_bytes xs)) (last_word (le_bytes tail)) [] 0 (length (words_in (le_bytes xs))) refl ∙ z) in
    let d : last_word (le_bytes (slice_set tail 0 u)) ≡ u = ap (λ ws. slice_index ws 0) (words_set tail 0 u lu) ∙ get_or-set_same (words_in (le_bytes tail)) 0 u 0 (omega (arith, b)) in
    let c : last_count (le_bytes (slice_set tail 0 u)) ≡ last_count (le_bytes tail) = ap (λ ws. slice_index ws 1) (words_set tail 0 u lu) ∙ get_or-set_other (words_in (le_bytes tail)) 0 1 u 0 (λ g. cc) in
    bit_wrote i u v p k refl (length_set tail 0 u)
    (rw (d, q) (last_set (words_in (le_bytes xs)) (last_word (le_bytes tail)) u)) c (rw d (below (last_count (le_bytes tail)) (rw z at p.clear) (omega (arith, q, r)) (omega (arith, few)))) (rw f h)
  where
    last_set : (ws : List ℕ) (z u : ℕ) → ws ++ u ∷ [] ≡ slice_set (ws ++ z ∷ []) (length ws) u
    last_set [] z u = refl
    last_set (w ∷ ws) z u = ap (λ vs. w ∷ vs) (last_set ws z u)
