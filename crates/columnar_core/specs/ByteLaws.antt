-- The words of bytes, and the bytes of words.
use Rattle.std.proofs.Common.{ℕ, zero, suc, List, [], ◌∷◌, ◌++◌, ◌≡◌, ◌<◌, ◌≤◌, ◌+◌, ◌-◌, ◌*◌, ◌/◌, ◌^◌, length, map, get_or, take, drop, refl, sym, ◌∙◌, ap, arith}
use Rattle.std.specs.List.{range_with_len, flat_map}
use Rattle.std.specs.Int.{from_le_bytes, to_le_bytes, w64}
use Rattle.std.proofs.Math.Seq.{take-add}
use Rattle.std.proofs.lemmas.List.{take-append-drop, drop-drop, get_or-drop, get_or-take, get_or_past, length-drop, length-take-le, take_all}
use Rattle.std.proofs.lemmas.List.Concat.{flat_map-append}
use Rattle.std.proofs.lemmas.Nat.{le_bytes_8}
use Rattle.std.proofs.lemmas.Bool.{cases_lt}
use Rattle.std.proofs.Common.{⊎_elim}
use Rattle.columnar_core.specs.Bytes.{word, rounded, word_bytes, le_bytes, AreBytes}
use Rattle.columnar_core.specs.Words.{table_words, slice_words, words, padded, store_bytes}
use Rattle.columnar_core.specs.Frame.{IsStore, framed_slices}
use Rattle.columnar_core.specs.FrameLaws.{are_framed_slices, store_of}
use Rattle.columnar_core.specs.WordLaws.{zeros_read, length-padded, framed_words, legal_words}

-- a word depends only on its eight bytes
same_number : (a b : List ℕ) → ((k : ℕ) → k < 8 → get_or a k 0 ≡ get_or b k 0) → from_le_bytes w64 a ≡ from_le_bytes w64 b
same_number a b h =
    let e0 = h 0 (omega arith) in
    let e1 = h 1 (omega arith) in
    let e2 = h 2 (omega arith) in
    let e3 = h 3 (omega arith) in
    let e4 = h 4 (omega arith) in
    let e5 = h 5 (omega arith) in
    let e6 = h 6 (omega arith) in
    let e7 = h 7 (omega arith) in
    rw (e0, e1, e2, e3, e4, e5, e6, e7) refl

pub bytes-padded : (s : List ℕ) → AreBytes s → AreBytes (padded s)
bytes-padded s h i = let e = zeros_read s (rounded (length s) - length s) i in omega (arith, h i)

pub word-padded : (s : List ℕ) (i : ℕ) → word (padded s) i ≡ word s i
unfolding word
word-padded s i = same_number (drop (8 * i) (padded s)) (drop (8 * i) s) (λ k l.
    get_or-drop (8 * i) (padded s) k 0 ∙ zeros_read s (rounded (length s) - length s) (8 * i + k) ∙ sym (get_or-drop (8 * i) s k 0))

pub bytes-word : (bs : List ℕ) (i : ℕ) → AreBytes bs → 8 * i + 8 ≤ length bs → word_bytes (word bs i) ≡ take 8 (drop (8 * i) bs)
unfolding word word_bytes
bytes-word bs i h l =
    le_bytes_8 (take 8 (drop (8 * i) bs)) (word bs i)
    (length-take-le 8 (drop (8 * i) bs) (omega (arith, length-drop (8 * i) bs)))
    (λ k. ⊎_elim
    (λ (p : k < 8). omega (arith, get_or-take 8 (drop (8 * i) bs) k 0 p, get_or-drop (8 * i) bs k 0, h (8 * i + k)))
    (λ (p : 8 ≤ k). omega (arith, get_or_past (take 8 (drop (8 * i) bs)) k 0 (omega (arith, length-take-le 8 (drop (8 * i) bs) (omega (arith, length-drop (8 * i) bs))))))
    (cases_lt k 8))
    (same_number (drop (8 * i) bs) (take 8 (drop (8 * i) bs)) (λ k p. sym (get_or-take 8 (drop (8 * i) bs) k 0 p)))

-- n words from word a on
pub bytes-words : (bs : List ℕ) (a n : ℕ) → AreBytes bs → 8 * (a + n) ≤ length bs → le_bytes (map (word bs) (range_with_len a n)) ≡ take (8 * n) (drop (8 * a) bs)
unfolding word_bytes
bytes-words bs a zero h l = refl
bytes-words bs a (suc n) h l =
    let e : drop 8 (drop (8 * a) bs) ≡ drop (8 * (a + 1)) bs = drop-drop 8 (8 * a) bs ∙ ap (λ k. drop k bs) (omega arith) in
    let d : 8 + 8 * n ≡ 8 * suc n = omega arith in
    ap (λ t. t ++ le_bytes (map (word bs) (range_with_len (a + 1) n))) (bytes-word bs a h (omega arith))
    ∙ ap (λ t. take 8 (drop (8 * a) bs) ++ t) (bytes-words bs (a + 1) n h (omega arith) ∙ ap (take (8 * n)) (sym e))
    ∙ sym (take-add 8 (8 * n) (drop (8 * a) bs)) ∙ ap (λ k. take k (drop (8 * a) bs)) d

map-word-padded : (s : List ℕ) (a n : ℕ) → map (word s) (range_with_len a n) ≡ map (word (padded s)) (range_with_len a n)
map-word-padded s a zero = refl
map-word-padded s a (suc n) =
    ap (λ w. w ∷ map (word s) (range_with_len (a + 1) n)) (sym (word-padded s a))
    ∙ ap (λ ws. word (padded s) a ∷ ws) (map-word-padded s (a + 1) n)

pub le_bytes-slice_words : (s : List ℕ) → AreBytes s → le_bytes (slice_words s) ≡ padded s
le_bytes-slice_words s h =
    ap le_bytes (map-word-padded s 0 ((length s + 7) / 8))
    ∙ bytes-words (padded s) 0 ((length s + 7) / 8) (bytes-padded s h) (omega (arith, length-padded s))
    ∙ take_all (8 * ((length s + 7) / 8)) (padded s) (omega (arith, length-padded s))

flat_padded : (slices : List (List ℕ)) → ((i : ℕ) → AreBytes (get_or slices i [])) → le_bytes (flat_map slice_words slices) ≡ flat_map padded slices
unfolding word_bytes
flat_padded [] h = refl
flat_padded (s ∷ ss) h =
    flat_map-append word_bytes (slice_words s) (flat_map slice_words ss)
    ∙ ap (λ t. t ++ le_bytes (flat_map slice_words ss)) (le_bytes-slice_words s (h 0))
    ∙ ap (λ t. padded s ++ t) (flat_padded ss (λ i. h (suc i)))

-- the words and the bytes that are written are equal
pub le_bytes-words : (slices : List (List ℕ)) → ((i : ℕ) → AreBytes (get_or slices i [])) → le_bytes (words slices) ≡ store_bytes slices
unfolding word_bytes
le_bytes-words slices h =
    flat_map-append word_bytes (table_words slices) (flat_map slice_words slices)
    ∙ ap (λ t. le_bytes (table_words slices) ++ t) (flat_padded slices h)

pub slices-store_bytes : (slices : List (List ℕ)) → 8 * length (words slices) < 2 ^ 64 → framed_slices (store_bytes slices) ≡ slices
slices-store_bytes slices b = sym (are_framed_slices (store_bytes slices) slices (framed_words slices b))

pub store-store_bytes : (slices : List (List ℕ)) → 8 * length (words slices) < 2 ^ 64 → IsStore (store_bytes slices)
store-store_bytes slices b = store_of (store_bytes slices) (length slices) (legal_words slices b)

bytes_of_word : (x : ℕ) → AreBytes (word_bytes x)
unfolding word_bytes
bytes_of_word x zero = omega arith
bytes_of_word x (suc zero) = omega arith
bytes_of_word x (suc (suc zero)) = omega arith
bytes_of_word x (suc (suc (suc zero))) = omega arith
bytes_of_word x (suc (suc (suc (suc zero)))) = omega arith
bytes_of_word x (suc (suc (suc (suc (suc zero))))) = omega arith
bytes_of_word x (suc (suc (suc (suc (suc (suc zero)))))) = omega arith
bytes_of_word x (suc (suc (suc (suc (suc (suc (suc zero))))))) = omega arith
bytes_of_word x (suc (suc (suc (suc (suc (suc (suc (suc i)))))))) = omega arith

pub bytes_of_both : (a b : List ℕ) → AreBytes a → AreBytes b → AreBytes (a ++ b)
bytes_of_both [] b p q i = q i
bytes_of_both (x ∷ a) b p q zero = p 0
bytes_of_both (x ∷ a) b p q (suc i) = bytes_of_both a b (λ j. p (suc j)) q i

pub bytes-le_bytes : (xs : List ℕ) → AreBytes (le_bytes xs)
unfolding word_bytes
bytes-le_bytes [] i = omega arith
bytes-le_bytes (x ∷ xs) i = bytes_of_both (word_bytes x) (le_bytes xs) (bytes_of_word x) (bytes-le_bytes xs) i

-- each slice holds bytes, if the first n do and there are no more than n
pub hold_bytes : (slices : List (List ℕ)) (n : ℕ) → length slices ≤ n → ((i : ℕ) → i < n → AreBytes (get_or slices i [])) → (i : ℕ) → AreBytes (get_or slices i [])
hold_bytes slices n l h i =
    ⊎_elim (λ (p : i < n). h i p)
    (λ (p : n ≤ i). λ k. let e = get_or_past slices i [] (omega arith) in
    let q : get_or (get_or slices i []) k 0 ≡ 0 = ap (λ (t : List ℕ). get_or t k 0) e in omega (arith, q))
    (cases_lt i n)

-- the bytes of the next of the remaining words
pub block_out : (xs : List ℕ) (at next : ℕ) (bs : List ℕ) → at ≤ next → bs ≡ le_bytes (take (next - at) (drop at xs)) → le_bytes (drop at xs) ≡ bs ++ le_bytes (drop next xs)
block_out xs at next bs l e =
    let ys = drop at xs in
    let n = next - at in
    let d : drop n ys ≡ drop next xs = drop-drop n at xs ∙ ap (λ k. drop k xs) (omega arith) in
    ap le_bytes (sym (take-append-drop n ys)) ∙ flat_map-append (to_le_bytes w64) (take n ys) (drop n ys)
    ∙ ap (λ t. le_bytes (take n ys) ++ le_bytes t) d ∙ ap (λ t. t ++ le_bytes (drop next xs)) (sym e)
