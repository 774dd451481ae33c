use Rattle.std.proofs.Common.{◌≡◌, ℕ, ◌+◌, ◌*◌, ◌/◌, ◌^◌, ◌<◌, ◌≤◌, List, [], ◌∷◌, ◌++◌, length, map, take, drop, get_or, refl, sym, ap, ◌∙◌, arith}
use Rattle.std.specs.Prelude.{slice_get, slice_index, Some}
use Rattle.std.specs.List.{flat_map}
use Rattle.std.specs.Int.{to_le_bytes, from_le_bytes, w64}
use Rattle.std.proofs.lemmas.Option.{slice_get-get_or, get_or_from_slice_get}
use Rattle.std.proofs.lemmas.List.{map-append, length-map, take-map, get_or-map, get_or-take}
use Rattle.columnar_base.specs.declared.view.Items.{Items}
use Rattle.columnar_base.specs.declared.view.Items.TheVariants.{Typed, Bytes}
use Rattle.columnar_base.specs.Format.{slice}
use Rattle.columnar_base.specs.Elements.{pieces}
use Rattle.columnar_base.specs.ElementLaws.{length-pieces, pieces_get, pieces-flat, length-flat, word_element}
use Rattle.columnar_base.specs.Views.{items_content}
use Rattle.columnar_base.specs.WordViews.{word, words_in, le_bytes, bytes_of}

pub length-words_in : (bs : List ℕ) → length (words_in bs) ≡ length bs / 8
unfolding words_in
length-words_in bs = length-map (pieces 8 (length bs / 8) bs) (from_le_bytes w64) ∙ length-pieces 8 (length bs / 8) bs

pub length-le_bytes : (xs : List ℕ) → length (le_bytes xs) ≡ 8 * length xs
length-le_bytes xs = length-flat 8 (to_le_bytes w64) word_element.sized xs

-- a number of 64 bits is read back from its bytes
pub word_back : (n : ℕ) → n < 2 ^ 64 → from_le_bytes w64 (to_le_bytes w64 n) ≡ n
word_back n h = omega arith

-- the words of the bytes of words are these words, modulo 2^64
pub words_back : (xs : List ℕ) → words_in (le_bytes xs) ≡ map (λ n. from_le_bytes w64 (to_le_bytes w64 n)) xs
unfolding words_in
words_back xs =
    let l : length (flat_map (to_le_bytes w64) xs) ≡ 8 * length xs = length-flat 8 (to_le_bytes w64) word_element.sized xs in
    let n : length (flat_map (to_le_bytes w64) xs) / 8 ≡ length xs = omega arith in
    rw (n, pieces-flat 8 (to_le_bytes w64) word_element.sized xs) (map_twice xs)
  where
    map_twice : (ys : List ℕ) → map (from_le_bytes w64) (map (to_le_bytes w64) ys) ≡ map (λ n. from_le_bytes w64 (to_le_bytes w64 n)) ys
    map_twice [] = refl
    map_twice (y ∷ ys) = ap (λ t. from_le_bytes w64 (to_le_bytes w64 y) ∷ t) (map_twice ys)

-- word i of words
pub word_of_words : (xs : List ℕ) (i x : ℕ) → i < length xs → x ≡ slice_index xs i → x < 2 ^ 64 → slice_index (words_in (le_bytes xs)) i ≡ x
word_of_words xs i x l e h =
    ap (λ (t : List ℕ). slice_index t i) (words_back xs) ∙ get_or-map (λ n. from_le_bytes w64 (to_le_bytes w64 n)) xs i 0 0 l ∙ (rw (← e) (word_back x h))

-- one word more
pub words_pushed : (xs : List ℕ) (x : ℕ) → x < 2 ^ 64 → words_in (le_bytes (xs ++ x ∷ [])) ≡ words_in (le_bytes xs) ++ x ∷ []
words_pushed xs x h =
    words_back (xs ++ x ∷ []) ∙ map-append (λ n. from_le_bytes w64 (to_le_bytes w64 n)) xs (x ∷ []) ∙ (rw (words_back xs, word_back x h) refl)

-- the first n words
pub words_cut : (xs : List ℕ) (n : ℕ) → words_in (le_bytes (take n xs)) ≡ take n (words_in (le_bytes xs))
words_cut xs n =
    words_back (take n xs) ∙ sym (take-map (λ n. from_le_bytes w64 (to_le_bytes w64 n)) n xs) ∙ ap (take n) (sym (words_back xs))

-- the word at index i is read from its eight bytes
word_piece : (bs : List ℕ) (i : ℕ) → i < length (words_in bs) → slice_index (words_in bs) i ≡ from_le_bytes w64 (take 8 (drop (8 * i) bs))
unfolding words_in
word_piece bs i l =
    let n = length-map (pieces 8 (length bs / 8) bs) (from_le_bytes w64) in
    let m = length-pieces 8 (length bs / 8) bs in
    let k : i < length (pieces 8 (length bs / 8) bs) = omega arith in
    let j : i < length bs / 8 = omega arith in
    let p = pieces_get 8 (length bs / 8) i bs j in
    let q : slice_get (pieces 8 (length bs / 8) bs) i ≡ Some (get_or (pieces 8 (length bs / 8) bs) i []) = slice_get-get_or (pieces 8 (length bs / 8) bs) i [] k in
    let r : get_or (pieces 8 (length bs / 8) bs) i [] ≡ take 8 (drop (8 * i) bs) = cc in
    get_or-map (from_le_bytes w64) (pieces 8 (length bs / 8) bs) i [] 0 k ∙ (rw r refl)

-- a word that was read from bytes
pub word_of_bytes : (bs : List ℕ) (i x : ℕ) → i < length (words_in bs) → x < 2 ^ 64 → to_le_bytes w64 x ≡ take 8 (drop (8 * i) bs) → slice_index (words_in bs) i ≡ x
word_of_bytes bs i x l h e = word_piece bs i l ∙ (rw (← e) (word_back x h))

-- a word depends only on its eight bytes
pub front_number : (bs : List ℕ) → from_le_bytes w64 (take 8 bs) ≡ from_le_bytes w64 bs
front_number bs =
    let e0 = get_or-take 8 bs 0 0 (omega arith) in
    let e1 = get_or-take 8 bs 1 0 (omega arith) in
    let e2 = get_or-take 8 bs 2 0 (omega arith) in
    let e3 = get_or-take 8 bs 3 0 (omega arith) in
    let e4 = get_or-take 8 bs 4 0 (omega arith) in
    let e5 = get_or-take 8 bs 5 0 (omega arith) in
    let e6 = get_or-take 8 bs 6 0 (omega arith) in
    let e7 = get_or-take 8 bs 7 0 (omega arith) in
    rw (e0, e1, e2, e3, e4, e5, e6, e7) refl

-- a word exists if its bytes do
pub word_there : (bs : List ℕ) (i : ℕ) → 8 * i + 8 ≤ length bs → i < length (words_in bs)
word_there bs i l = omega (arith, length-words_in bs)

pub word_is : (bs : List ℕ) (i : ℕ) → 8 * i + 8 ≤ length bs → slice_index (words_in bs) i ≡ word bs i
unfolding word
word_is bs i l = word_piece bs i (word_there bs i l) ∙ front_number (drop (8 * i) bs)

-- the bytes of word i exist
pub word_within : (bs : List ℕ) (i : ℕ) → i < length (words_in bs) → 8 * i + 8 ≤ length bs
word_within bs i l = omega (arith, length-words_in bs)

-- the content of a view is a slice
pub items_slice : {T : Type 0} (bytes : T → List ℕ) (i : Items T) → items_content bytes i ≡ slice (bytes_of (items_content bytes i))
items_slice bytes (Typed xs) = refl
items_slice bytes (Bytes bs) = refl

-- the same for a view with these words, and for one with these bytes
pub typed_bytes : (xs bs : List ℕ) → flat_map (to_le_bytes w64) xs ≡ bs → 8 * length xs ≡ length bs
typed_bytes xs bs h = sym (length-flat 8 (to_le_bytes w64) word_element.sized xs) ∙ ap length h

pub typed_count : (xs bs : List ℕ) → flat_map (to_le_bytes w64) xs ≡ bs → length xs ≡ length (words_in bs)
typed_count xs bs h = omega (arith, typed_bytes xs bs h, length-words_in bs)

pub typed_word : (xs bs : List ℕ) (i x : ℕ) → flat_map (to_le_bytes w64) xs ≡ bs → slice_get xs i ≡ Some x → i < length xs → x < 2 ^ 64 → x ≡ slice_index (words_in bs) i
typed_word xs bs i x h g l k =
    let e : slice_index xs i ≡ x = get_or_from_slice_get xs i x 0 g in
    sym (ap (λ (t : List ℕ). slice_index (words_in t) i) (sym h) ∙ word_of_words xs i x l (sym e) k)
