-- The bytes of slices of numbers.
use Rattle.std.proofs.Common.{◌≡◌, ℕ, ℤ, ◌^◌, zero, suc, ◌+◌, ◌-◌, ◌*◌, ◌/◌, ◌%◌, ◌<◌, ◌≤◌, List, [], ◌∷◌, length, get_or, refl, sym, ◌∙◌, ap, arith}
use Rattle.std.specs.Prelude.{slice_index, min}
use Rattle.std.specs.List.{flat_map}
use Rattle.std.specs.Int.{Width, w8, byte_len, to_le_bytes, bytes_low_first, byte_at, cast_unsigned}
use Rattle.std.specs.declared.num.Wrapping.{Wrapping}
use Rattle.std.proofs.lemmas.List.{get_or-append_right, get_or_append_left, get_or_past}
use Rattle.std.proofs.Math.Nat.{mod-lt, div-add-mod, mul-le-mul_left}
use Rattle.columnar_base.specs.ElementLaws.{length-flat}
use Rattle.columnar_base.specs.Elements.{IsElement}
use Rattle.columnar_base.specs.Row.{Row}
use Rattle.columnar_base.specs.NumberLaws.{length-number}
use Rattle.columnar_core.specs.Bytes.{AreBytes}
use Rattle.columnar_core.specs.ByteLaws.{bytes_of_both}
use Rattle.columnar_core.specs.SliceBytes.{IsCounted, inside}
use Rattle.columnar_base.specs.Numbers.{signed_bytes}

byte_below : (i n : ℕ) → byte_at i n < 256
byte_below zero n = omega arith
byte_below (suc i) n = mod-lt (n / 256 ^ suc i) {m = 256} (omega arith)

bytes_from : (i k n : ℕ) → AreBytes (bytes_low_first i k n)
bytes_from i zero n j = omega arith
bytes_from i (suc k) n zero = byte_below i n
bytes_from i (suc k) n (suc j) = bytes_from (suc i) k n j

-- each of the bytes of a number is a byte
pub bytes_of_number : (w : Width) (n : ℕ) → AreBytes (to_le_bytes w n)
bytes_of_number w n = bytes_from 0 (byte_len w) n

pub all_are_bytes : {T : Type 0} (bytes : T → List ℕ) → ((x : T) → AreBytes (bytes x)) → (xs : List T) → AreBytes (flat_map bytes xs)
all_are_bytes bytes h [] i = omega arith
all_are_bytes bytes h (x ∷ xs) i = bytes_of_both (bytes x) (flat_map bytes xs) (h x) (all_are_bytes bytes h xs) i

-- the bytes of the numbers of a slice
pub are_counted : {T : Type 0} (w : Width) (number : T → ℕ) (xs : List T) (count : ℕ) → count ≡ byte_len w * length xs → IsCounted count (flat_map (λ x. to_le_bytes w (number x)) xs)
are_counted w number xs count e = record {
  number = e ∙ sym (length-flat (byte_len w) (λ x. to_le_bytes w (number x)) (λ x. length-number w (number x)) xs);
  bytes = all_are_bytes (λ x. to_le_bytes w (number x)) (λ x. bytes_of_number w (number x)) xs;
}

pub counted_unsigned : (w : Width) (xs : List ℕ) (count : ℕ) → count ≡ byte_len w * length xs → IsCounted count (flat_map (to_le_bytes w) xs)
counted_unsigned w xs count e = are_counted w (λ n. n) xs count e

pub counted_signed : (w : Width) (xs : List ℤ) (count : ℕ) → count ≡ byte_len w * length xs → IsCounted count (flat_map (signed_bytes w) xs)
counted_signed w xs count e = are_counted w (cast_unsigned w) xs count e

pub counted_wrapping_unsigned : (w : Width) (xs : List (Wrapping ℕ)) (count : ℕ) → count ≡ byte_len w * length xs → IsCounted count (flat_map (inside (to_le_bytes w)) xs)
counted_wrapping_unsigned w xs count e = are_counted w (λ x. x.0) xs count e

pub counted_wrapping_signed : (w : Width) (xs : List (Wrapping ℤ)) (count : ℕ) → count ≡ byte_len w * length xs → IsCounted count (flat_map (inside (signed_bytes w)) xs)
counted_wrapping_signed w xs count e = are_counted w (λ x. cast_unsigned w x.0) xs count e

-- byte k of element i in the bytes of elements
pub byte_in : {T : Type 0} (size : ℕ) (bytes : T → List ℕ) → ((x : T) → length (bytes x) ≡ size) → (xs : List T) (i k : ℕ) (x : T) → i < length xs → x ≡ get_or xs i x → k < size → slice_index (flat_map bytes xs) (size * i + k) ≡ slice_index (bytes x) k
byte_in size bytes h [] i k x n e l = absurd (omega arith)
byte_in size bytes h (y ∷ xs) zero k x n e l =
    let z : size * 0 + k ≡ k = omega arith in
    rw z (get_or_append_left (bytes y) (flat_map bytes xs) 0 k (omega (arith, h y)) ∙ ap (λ t. slice_index (bytes t) k) (sym e))
byte_in size bytes h (y ∷ xs) (suc i) k x n e l =
    let z : size * suc i + k - size ≡ size * i + k = omega arith in
    get_or-append_right (bytes y) (flat_map bytes xs) size (size * suc i + k) 0 (h y) (omega arith)
    ∙ ap (slice_index (flat_map bytes xs)) z ∙ byte_in size bytes h xs i k x (omega arith) e l

-- past the last element there is no byte
pub no_byte : {T : Type 0} (size : ℕ) (bytes : T → List ℕ) → ((x : T) → length (bytes x) ≡ size) → (xs : List T) (at : ℕ) → size * length xs ≤ at → slice_index (flat_map bytes xs) at ≡ 0
no_byte size bytes h xs at l = get_or_past (flat_map bytes xs) at 0 (omega (arith, length-flat size bytes h xs))

-- byte `at` of the bytes of elements
pub byte_at_of : {T : Type 0} {size : ℕ} {bytes : T → List ℕ} {row_of : List ℕ → Row} {meaning : T → Row} → IsElement size bytes row_of meaning → (xs : List T) (at s : ℕ) (x : T) (b : ℕ) → size ≤ 8 → s ≡ min size (2 ^ 64 - 1) → at / s < length xs → x ≡ get_or xs (at / s) x → b ≡ slice_index (bytes x) (at % s) → b ≡ slice_index (flat_map bytes xs) at
byte_at_of {T} {size} {bytes} e xs at s x b a q l h k =
    let r : s ≡ size = omega (arith, q) in
    let d : size * (at / size) + at % size ≡ at = div-add-mod at size in
    let m : at % size < size = mod-lt at {m = size} (omega (arith, e.positive)) in
    k ∙ ap (λ t. slice_index (bytes x) (at % t)) r
    ∙ sym (byte_in size bytes e.sized xs (at / size) (at % size) x (rw r at l) (rw r at h) m) ∙ ap (slice_index (flat_map bytes xs)) d

pub no_byte_of : {T : Type 0} {size : ℕ} {bytes : T → List ℕ} {row_of : List ℕ → Row} {meaning : T → Row} → IsElement size bytes row_of meaning → (xs : List T) (at s : ℕ) → size ≤ 8 → s ≡ min size (2 ^ 64 - 1) → length xs ≤ at / s → 0 ≡ slice_index (flat_map bytes xs) at
no_byte_of {T} {size} {bytes} e xs at s a q l =
    let r : s ≡ size = omega (arith, q) in
    let d : size * (at / size) + at % size ≡ at = div-add-mod at size in
    let m : size * length xs ≤ size * (at / size) = mul-le-mul_left size (rw r at l) in
    sym (no_byte size bytes e.sized xs at (omega (arith, d, m)))

-- bytes, encoded as bytes, stay
pub bytes_are : (bs : List ℕ) → AreBytes bs → bs ≡ flat_map (to_le_bytes w8) bs
bytes_are [] h = refl
bytes_are (b ∷ bs) h =
    let e : b ≡ b % 256 = omega (arith, h 0) in
    ap (λ t. b ∷ t) (bytes_are bs (λ i. h (suc i))) ∙ ap (λ t. t ∷ flat_map (to_le_bytes w8) bs) e
