-- Arrays are read back from their bytes.
use Rattle.std.proofs.Common.{◌≡◌, ℕ, zero, suc, ◌+◌, ◌-◌, ◌*◌, ◌^◌, ◌<◌, ◌≤◌, List, [], ◌∷◌, ◌++◌, Bool, length, take, drop, map, replicate, refl, sym, ◌∙◌, ap, arith, length-append, ⊎_elim}
use Rattle.std.specs.Prelude.{min, slice_set}
use Rattle.std.specs.List.{flat_map}
use Rattle.std.proofs.lemmas.List.{length-replicate, length-take-le, take_at, take_all, take_more_set}
use Rattle.std.proofs.lemmas.Bool.{cases_lt}
use Rattle.columnar_base.specs.Row.{Row, list, row_eq}
use Rattle.columnar_base.specs.Elements.{pieces, IsElement}
use Rattle.columnar_base.specs.ElementLaws.{length-flat, pieces-flat, map_back, read_more}
use Rattle.columnar_base.specs.Arrays.{filled, array_size, array_bytes, array_row_of, array_row}

pub length-filled : (n : ℕ) (bs : List ℕ) → length (filled n bs) ≡ n
length-filled n bs = length-take-le n (bs ++ replicate n 0) (omega (arith, length-append bs (replicate n 0), length-replicate {A = ℕ} n 0))

-- bytes of the right number stay
pub filled_whole : (n : ℕ) (bs : List ℕ) → length bs ≡ n → filled n bs ≡ bs
filled_whole n bs e = take_at bs (replicate n 0) n e

array_positive : (size n : ℕ) → 1 ≤ size → 1 ≤ array_size size n
array_positive size zero l = omega arith
array_positive size (suc n) l = let m : size * suc n ≡ size + size * n = omega arith in omega (arith, m)

pub array_element : {T : Type 0} {size : ℕ} {bytes : T → List ℕ} {row_of : List ℕ → Row} {meaning : T → Row} (n : ℕ) → IsElement size bytes row_of meaning → IsElement (array_size size n) (array_bytes n size bytes) (array_row_of n size row_of) (array_row n size bytes row_of)
array_element {T} {size} {bytes} n e = record {
  positive = array_positive size n e.positive;
  sized = λ xs. length-filled (array_size size n) (flat_map bytes xs);
  read_back = λ xs. refl;
}

-- the bytes of an array: those of its elements in order
pub array_bytes_are : {T : Type 0} {size : ℕ} {bytes : T → List ℕ} {row_of : List ℕ → Row} {meaning : T → Row} (n : ℕ) → IsElement size bytes row_of meaning → (xs : List T) → 0 < n → length xs ≡ n → array_bytes n size bytes xs ≡ flat_map bytes xs
array_bytes_are {T} {size} {bytes} zero e xs p l = absurd (omega arith)
array_bytes_are {T} {size} {bytes} (suc n) e xs p l = filled_whole (size * suc n) (flat_map bytes xs) (length-flat size bytes e.sized xs ∙ ap (λ k. size * k) l)

-- the row of an array is the list of its elements' rows
pub array_row_is : {T : Type 0} {size : ℕ} {bytes : T → List ℕ} {row_of : List ℕ → Row} {meaning : T → Row} (n : ℕ) → IsElement size bytes row_of meaning → (xs : List T) → length xs ≡ n → array_row n size bytes row_of xs ≡ list (map meaning xs)
array_row_is zero e [] l = refl
array_row_is zero e (x ∷ xs) l = cc
array_row_is {T} {size} {bytes} {row_of} (suc n) e xs l =
    let b = array_bytes_are (suc n) e xs (omega arith) l in
    let p : pieces size (suc n) (flat_map bytes xs) ≡ map bytes xs = ap (λ k. pieces size k (flat_map bytes xs)) (sym l) ∙ pieces-flat size bytes e.sized xs in
    ap (λ bs. array_row_of (suc n) size row_of bs) b ∙ ap (λ ps. list (map row_of ps)) p ∙ ap list (map_back e xs)

-- the number of bytes, as far as a `usize` can count it
pub array_size_is : (size n s : ℕ) → 1 ≤ size → s ≡ min size (2 ^ 64 - 1) → 0 < n → min (s * n) (2 ^ 64 - 1) ≡ min (array_size size n) (2 ^ 64 - 1)
array_size_is size zero s p e l = absurd (omega arith)
array_size_is size (suc n) s p e l =
    ⊎_elim
    (λ (k : size < 2 ^ 64). let r : s ≡ size = omega (arith, e) in rw r refl)
    (λ (k : 2 ^ 64 ≤ size).
    let a : s * suc n ≡ s + s * n = omega arith in
    let b : size * suc n ≡ size + size * n = omega arith in
    omega (arith, a, b, e))
    (cases_lt size (2 ^ 64))

-- the remaining elements of two arrays decide whether the arrays are equal
abbrev pub RestDecidesArrays : {T : Type 0} → (T → Row) → List T → List T → Bool → ℕ → Type 0
RestDecidesArrays meaning xs ys answer i = answer ≡ row_eq (list (map meaning (drop i xs))) (list (map meaning (drop i ys)))

pub rest_first : {T : Type 0} {size : ℕ} {bytes : T → List ℕ} {row_of : List ℕ → Row} {meaning : T → Row} (n : ℕ) → IsElement size bytes row_of meaning → (xs ys : List T) → length xs ≡ n → length ys ≡ n → RestDecidesArrays meaning xs ys (row_eq (array_row n size bytes row_of xs) (array_row n size bytes row_of ys)) 0
rest_first n e xs ys l m = rw (array_row_is n e xs l, array_row_is n e ys m) refl

-- an array that was read from bytes has these bytes
pub array_read : {T : Type 0} {size : ℕ} {bytes : T → List ℕ} {row_of : List ℕ → Row} {meaning : T → Row} (n : ℕ) → IsElement size bytes row_of meaning → (xs : List T) (bs : List ℕ) → length xs ≡ n → length bs < 2 ^ 64 → length bs ≡ array_size size n → flat_map bytes (take n xs) ≡ take (size * n) bs → array_bytes n size bytes xs ≡ bs
array_read {T} {size} {bytes} zero e xs bs l b m h = absurd (omega (arith, b, m))
array_read {T} {size} {bytes} (suc n) e xs bs l b m h =
    array_bytes_are (suc n) e xs (omega arith) l
    ∙ ap (flat_map bytes) (sym (take_all (suc n) xs (omega (arith, l)))) ∙ h ∙ take_all (size * suc n) bs (omega (arith, m))

-- one element more
pub array_read_more : {T : Type 0} (bytes : T → List ℕ) (size i : ℕ) (xs : List T) (x : T) (bs : List ℕ) → i < length xs → bytes x ≡ take size (drop (size * i) bs) → flat_map bytes (take i xs) ≡ take (size * i) bs → flat_map bytes (take (i + 1) (slice_set xs i x)) ≡ take (size * (i + 1)) bs
array_read_more bytes size i xs x bs l e h = read_more bytes size i (take i xs) (take (i + 1) (slice_set xs i x)) x bs h e (take_more_set xs i x l)
