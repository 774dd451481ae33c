use Rattle.std.proofs.Common.{◌≡◌, ℕ, suc, ◌%◌, ◌^◌, ◌<◌, List, [], ◌∷◌, length, map, get_or, refl, sym, ◌∙◌, ap, arith}
use Rattle.std.specs.Prelude.{ℤ}
use Rattle.std.specs.Int.{to_le_bytes, from_le_bytes, cast_signed, cast_unsigned, w8, w128}
use Rattle.std.proofs.lemmas.Int.{of_z-to_z}
use Rattle.std.proofs.Math.Nat.{mod-eq_of_lt}
use Rattle.columnar_base.specs.Row.{Row, number, integer, number_of}
use Rattle.columnar_base.specs.RowLaws.{items_of-list}
use Rattle.columnar_base.specs.Numbers.{wrapped, unsigned_row, unsigned_row_of, signed_row}
use Rattle.columnar_base.specs.NumberLaws.{unsigned_element, number_back}
use Rattle.columnar_base.specs.Arrays.{array_row}
use Rattle.columnar_base.specs.ArrayLaws.{array_row_is}
use Rattle.columnar_core.specs.NumberSliceLaws.{bytes_of_number}
use Rattle.columnar_primitive.specs.Larges.{large_bytes, as_u128, as_i128}

-- each is a byte
bytes_same : (xs : List ℕ) → ((i : ℕ) → get_or xs i 0 < 256) → map number_of (map (unsigned_row w8) xs) ≡ xs
bytes_same [] h = refl
bytes_same (x ∷ xs) h =
    let l : x < 256 = h 0 in
    let e : x % 256 ≡ x = omega arith in
    let t : map number_of (map (unsigned_row w8) xs) ≡ xs = bytes_same xs (λ i. h (suc i)) in
    rw (e, t) refl

-- an array of sixteen bytes has these bytes
pub bytes_held_by : (xs : List ℕ) → length xs ≡ 16 → ((i : ℕ) → get_or xs i 0 < 256) → large_bytes (array_row 16 1 (to_le_bytes w8) (unsigned_row_of w8) xs) ≡ xs
bytes_held_by xs l h = ap large_bytes (array_row_is 16 (unsigned_element w8) xs l) ∙ (ap (map number_of) (items_of-list (map (unsigned_row w8) xs)) ∙ bytes_same xs h)

-- the row of an array of bytes
abbrev pub large_row : List ℕ → Row
large_row xs = array_row 16 1 (to_le_bytes w8) (unsigned_row_of w8) xs

-- an array of the bytes of a number has these bytes
number_held : (n : ℕ) (xs : List ℕ) → xs ≡ to_le_bytes w128 n → from_le_bytes w128 (large_bytes (large_row xs)) ≡ wrapped w128 n
number_held n xs e =
    ap (λ bs. from_le_bytes w128 (large_bytes (large_row bs))) e
    ∙ (ap (from_le_bytes w128) (bytes_held_by (to_le_bytes w128 n) refl (bytes_of_number w128 n)) ∙ number_back w128 n)

-- the bytes of a number represent it

pub u128_code : (n : ℕ) (xs : List ℕ) → xs ≡ to_le_bytes w128 n → as_u128 (large_row xs) ≡ unsigned_row w128 n
u128_code n xs e = ap number (number_held n xs e)

pub i128_code : (z : ℤ) (xs : List ℕ) → xs ≡ to_le_bytes w128 (cast_unsigned w128 z) → as_i128 (large_row xs) ≡ signed_row w128 z
i128_code z xs e = ap (λ n. integer (cast_signed w128 n)) (number_held (cast_unsigned w128 z) xs e)

-- sixteen bytes are a number of 128 bits
bytes_fit : (xs : List ℕ) → ((i : ℕ) → get_or xs i 0 < 256) → from_le_bytes w128 xs < 2 ^ 128
bytes_fit xs h = omega (arith, h 0, h 1, h 2, h 3, h 4, h 5, h 6, h 7, h 8, h 9, h 10, h 11, h 12, h 13, h 14, h 15)

-- sixteen bytes are read as the number that they are

pub u128_back : (n : ℕ) (xs : List ℕ) → length xs ≡ 16 → ((i : ℕ) → get_or xs i 0 < 256) → n ≡ from_le_bytes w128 xs → unsigned_row w128 n ≡ as_u128 (large_row xs)
u128_back n xs l h e =
    let f = bytes_fit xs h in
    let c : wrapped w128 (from_le_bytes w128 xs) ≡ from_le_bytes w128 xs = mod-eq_of_lt f in
    ap (unsigned_row w128) e ∙ (ap number c ∙ sym (ap (λ bs. number (from_le_bytes w128 bs)) (bytes_held_by xs l h)))

pub i128_back : (z : ℤ) (xs : List ℕ) → length xs ≡ 16 → ((i : ℕ) → get_or xs i 0 < 256) → z ≡ cast_signed w128 (from_le_bytes w128 xs) → signed_row w128 (cast_signed w128 (cast_unsigned w128 z)) ≡ as_i128 (large_row xs)
i128_back z xs l h e =
    let n = from_le_bytes w128 xs in
    let f = bytes_fit xs h in
    let k : cast_unsigned w128 (cast_signed w128 n) ≡ n = of_z-to_z w128 n f in
    let c : wrapped w128 n ≡ n = mod-eq_of_lt f in
    ap (λ y. signed_row w128 (cast_signed w128 (cast_unsigned w128 y))) e
    ∙ (ap (λ m. signed_row w128 (cast_signed w128 m)) k
    ∙ (ap (λ m. integer (cast_signed w128 (wrapped w128 m))) k
    ∙ (ap (λ m. integer (cast_signed w128 m)) c ∙ sym (ap (λ bs. integer (cast_signed w128 (from_le_bytes w128 bs))) (bytes_held_by xs l h)))))
