-- The steps of writing, slice by slice.
use Rattle.std.proofs.Common.{ℕ, List, [], ◌∷◌, ◌++◌, ◌≡◌, ◌<◌, ◌≤◌, ◌+◌, ◌*◌, ◌/◌, ◌^◌, length, map, get_or, take, drop, refl, sym, ◌∙◌, ap, arith, length-append, append-nil, Some, None, cond, ltb, true, false}
use Rattle.std.specs.List.{flat_map, range_with_len}
use Rattle.std.proofs.lemmas.List.{drop_more, drop_all, ext_get_or, get_or-take, get_or-drop, length-take-le, length-drop, take-append-drop, drop-drop}
use Rattle.std.proofs.lemmas.List.FromFn.{get_or-map-range_with_len, length-map-range_with_len}
use Rattle.columnar_core.specs.Bytes.{word, rounded, word_bytes, le_bytes}
use Rattle.columnar_core.specs.Words.{slice_ends, table_words, slice_words, words, word_count}
use Rattle.columnar_core.specs.WordLaws.{length-slice_words, word-le_bytes}
use Rattle.columnar_core.specs.WordViewLaws.{length-le_bytes}

-- the number of words of the slices from i on
pub words_rest : (slices : List (List ℕ)) (i : ℕ) → i < length slices → length (flat_map slice_words (drop i slices)) ≡ (length (get_or slices i []) + 7) / 8 + length (flat_map slice_words (drop (i + 1) slices))
words_rest slices i l =
    ap (λ t. length (flat_map slice_words t)) (drop_more slices i [] l)
    ∙ length-append (slice_words (get_or slices i [])) (flat_map slice_words (drop (i + 1) slices))
    ∙ ap (λ n. n + length (flat_map slice_words (drop (i + 1) slices))) (length-slice_words (get_or slices i []))

pub words_done : (slices : List (List ℕ)) (i : ℕ) → length slices ≤ i → length (flat_map slice_words (drop i slices)) ≡ 0
words_done slices i l = ap (λ t. length (flat_map slice_words t)) (drop_all i slices l)

pub ends_rest : (start : ℕ) (slices : List (List ℕ)) (i : ℕ) → i < length slices → slice_ends start (drop i slices) ≡ ((start + length (get_or slices i [])) ∷ []) ++ slice_ends (rounded (start + length (get_or slices i []))) (drop (i + 1) slices)
ends_rest start slices i l = ap (slice_ends start) (drop_more slices i [] l)

pub ends_done : (start : ℕ) (slices : List (List ℕ)) (i : ℕ) → length slices ≤ i → slice_ends start (drop i slices) ≡ []
ends_done start slices i l = ap (slice_ends start) (drop_all i slices l)

pub pieces_rest : (f : List ℕ → List ℕ) (slices : List (List ℕ)) (i : ℕ) → i < length slices → flat_map f (drop i slices) ≡ f (get_or slices i []) ++ flat_map f (drop (i + 1) slices)
pieces_rest f slices i l = ap (flat_map f) (drop_more slices i [] l)

pub pieces_done : (f : List ℕ → List ℕ) (slices : List (List ℕ)) (i : ℕ) → length slices ≤ i → flat_map f (drop i slices) ≡ []
pieces_done f slices i l = ap (flat_map f) (drop_all i slices l)

pub word_count_none : (slices : List (List ℕ)) → 2 ^ 64 ≤ 8 * length (words slices) → None ≡ word_count slices
word_count_none slices l =
    let e : ltb (8 * length (words slices)) (2 ^ 64) ≡ false = grind arith in
    sym (ap (λ b. cond b (Some (length (words slices))) None) e)

pub word_count_some : (slices : List (List ℕ)) (n : ℕ) → n ≡ length (words slices) → 8 * n < 2 ^ 64 → Some n ≡ word_count slices
word_count_some slices n p l =
    let e : ltb (8 * length (words slices)) (2 ^ 64) ≡ true = grind arith in
    ap Some p ∙ sym (ap (λ b. cond b (Some (length (words slices))) None) e)

-- the next of the remaining words
pub block_rest : (s : List ℕ) (at n : ℕ) (ws : List ℕ) → at + n ≤ (length s + 7) / 8 → ws ≡ map (word s) (range_with_len at n) → drop at (slice_words s) ≡ ws ++ drop (at + n) (slice_words s)
block_rest s at n ws l e =
    let xs = slice_words s in
    let m : length ws ≡ n = ap length e ∙ length-map-range_with_len (word s) at n in
    let k : length (take n (drop at xs)) ≡ n = length-take-le n (drop at xs) (omega (arith, l, length-slice_words s, length-drop at xs)) in
    let same : take n (drop at xs) ≡ ws =
    ext_get_or 0 (take n (drop at xs)) ws (k ∙ sym m) (λ i b.
    let h : i < n = omega (arith, b, k, m) in
    get_or-take n (drop at xs) i 0 h ∙ get_or-drop at xs i 0
    ∙ get_or-map-range_with_len (word s) 0 ((length s + 7) / 8) (at + i) (at + i) 0 (omega (arith, l, h)) (omega arith)
    ∙ sym (get_or-map-range_with_len (word s) at n i (at + i) 0 h refl) ∙ ap (λ t. get_or t i 0) (sym e)) in
    sym (take-append-drop n (drop at xs)) ∙ ap (λ t. t ++ drop n (drop at xs)) same
    ∙ ap (λ t. ws ++ t) (drop-drop n at xs)

pub words_out : (s : List ℕ) (i : ℕ) → (length s + 7) / 8 ≤ i → drop i (slice_words s) ≡ []
words_out s i l = drop_all i (slice_words s) (omega (arith, length-slice_words s))

-- one slice further in the table
pub ends_step : (start : ℕ) (slices : List (List ℕ)) (i end next : ℕ) → i < length slices → end ≡ start + length (get_or slices i []) → next ≡ rounded end → slice_ends start (drop i slices) ≡ (end ∷ []) ++ slice_ends next (drop (i + 1) slices)
ends_step start slices i end next l p q = rw (q, p) (ends_rest start slices i l)

pub table_step : (slices : List (List ℕ)) (count : ℕ) → count ≡ length slices → table_words slices ≡ (8 * (count + 1) ∷ []) ++ slice_ends (8 * (count + 1)) slices
table_step slices count e = ap (λ n. 8 * (n + 1) ∷ slice_ends (8 * (n + 1)) slices) (sym e)

pub ends_bytes : (start : ℕ) (slices : List (List ℕ)) (i end next : ℕ) → i < length slices → end ≡ start + length (get_or slices i []) → next ≡ rounded end → le_bytes (slice_ends start (drop i slices)) ≡ word_bytes end ++ le_bytes (slice_ends next (drop (i + 1) slices))
unfolding word_bytes
ends_bytes start slices i end next l p q = ap le_bytes (ends_step start slices i end next l p q)

pub table_bytes : (slices : List (List ℕ)) (count : ℕ) → count ≡ length slices → le_bytes (table_words slices) ≡ word_bytes (8 * (count + 1)) ++ le_bytes (slice_ends (8 * (count + 1)) slices)
unfolding word_bytes
table_bytes slices count e = ap le_bytes (table_step slices count e)

-- the words of the bytes of words are these
pub words_again : (xs : List ℕ) → ((i : ℕ) → get_or xs i 0 < 2 ^ 64) → slice_words (le_bytes xs) ≡ xs
words_again xs h =
    let bs = le_bytes xs in
    let n : length bs ≡ 8 * length xs = length-le_bytes xs in
    let m : length (slice_words bs) ≡ length xs = omega (arith, length-slice_words bs, n) in
    ext_get_or 0 (slice_words bs) xs m (λ i l.
    get_or-map-range_with_len (word bs) 0 ((length bs + 7) / 8) i i 0 (omega (arith, n, m, l)) (omega arith)
    ∙ ap (λ t. word t i) (sym (append-nil bs)) ∙ word-le_bytes xs [] i (omega (arith, m, l)) (h i))
