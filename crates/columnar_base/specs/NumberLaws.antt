-- Numbers are read back from their bytes.
use Rattle.std.proofs.Common.{◌≡◌, ℕ, ◌-◌, ◌≤◌, List, length, refl, ap, arith}
use Rattle.std.specs.Int.{Width, w8, w16, w32, w64, w128, byte_len, to_le_bytes, from_le_bytes, cast_signed, cast_unsigned}
use Rattle.columnar_base.specs.Row.{Row, number, integer}
use Rattle.columnar_base.specs.Elements.{IsElement}
use Rattle.columnar_base.specs.Numbers.{wrapped, unsigned_row, unsigned_row_of, signed_bytes, signed_row, signed_row_of}

-- the bytes of a number read as the number modulo the width
pub number_back : (w : Width) (n : ℕ) → from_le_bytes w (to_le_bytes w n) ≡ wrapped w n
number_back w8 n = refl
number_back w16 n = omega arith
number_back w32 n = omega arith
number_back w64 n = omega arith
number_back w128 n = omega arith

-- n is at most 8
pub at_most_8 : (n : ℕ) → n - 8 ≡ 0 → n ≤ 8
at_most_8 n e = omega (arith, e)

has_bytes : (w : Width) → 1 ≤ byte_len w
has_bytes w8 = omega arith
has_bytes w16 = omega arith
has_bytes w32 = omega arith
has_bytes w64 = omega arith
has_bytes w128 = omega arith

pub length-number : (w : Width) (n : ℕ) → length (to_le_bytes w n) ≡ byte_len w
length-number w8 n = refl
length-number w16 n = refl
length-number w32 n = refl
length-number w64 n = refl
length-number w128 n = refl

pub unsigned_element : (w : Width) → IsElement (byte_len w) (to_le_bytes w) (unsigned_row_of w) (unsigned_row w)
unsigned_element w = record { positive = has_bytes w; sized = length-number w; read_back = λ n. ap number (number_back w n) }

pub signed_element : (w : Width) → IsElement (byte_len w) (signed_bytes w) (signed_row_of w) (signed_row w)
signed_element w = record {
  positive = has_bytes w;
  sized = λ z. length-number w (cast_unsigned w z);
  read_back = λ z. ap (λ n. integer (cast_signed w n)) (number_back w (cast_unsigned w z));
}

-- a value that is stored as the element inside it
pub element_inside : {T W : Type 0} (inside : W → T) {size : ℕ} {bytes : T → List ℕ} {row_of : List ℕ → Row} {meaning : T → Row} → IsElement size bytes row_of meaning → IsElement size (λ x. bytes (inside x)) row_of (λ x. meaning (inside x))
element_inside inside e = record { positive = e.positive; sized = λ x. e.sized (inside x); read_back = λ x. e.read_back (inside x) }
