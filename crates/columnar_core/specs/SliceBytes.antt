-- The bytes of a slice's elements.
use Rattle.std.specs.Prelude.{ℕ, Bool, true, false, List, length, ◌≡◌}
use Rattle.std.specs.List.{flat_map}
use Rattle.std.specs.Int.{w8, w16, w32, w64, to_le_bytes}
use Rattle.std.specs.declared.num.Wrapping.{Wrapping}
use Rattle.columnar_base.specs.Numbers.{signed_bytes}
use Rattle.columnar_core.specs.Bytes.{AreBytes}
use Rattle.columnar_core.specs.declared.byte_slice.Elements.{Elements}
use Rattle.columnar_core.specs.declared.byte_slice.Elements.TheVariants.{Bytes, U16, U32, U64, I8, I16, I32, I64, WrappingU8, WrappingU16, WrappingU32, WrappingU64, WrappingI8, WrappingI16, WrappingI32, WrappingI64}

-- the bytes of the number inside
abbrev pub inside : {T : Type 0} → (T → List ℕ) → Wrapping T → List ℕ
inside bytes x = bytes x.0

-- the little-endian bytes of the elements
abbrev pub element_bytes : Elements → List ℕ
element_bytes (Bytes bs) = bs.now
element_bytes (U16 xs) = flat_map (to_le_bytes w16) xs.now
element_bytes (U32 xs) = flat_map (to_le_bytes w32) xs.now
element_bytes (U64 xs) = flat_map (to_le_bytes w64) xs.now
element_bytes (I8 xs) = flat_map (signed_bytes w8) xs.now
element_bytes (I16 xs) = flat_map (signed_bytes w16) xs.now
element_bytes (I32 xs) = flat_map (signed_bytes w32) xs.now
element_bytes (I64 xs) = flat_map (signed_bytes w64) xs.now
element_bytes (WrappingU8 xs) = flat_map (inside (to_le_bytes w8)) xs.now
element_bytes (WrappingU16 xs) = flat_map (inside (to_le_bytes w16)) xs.now
element_bytes (WrappingU32 xs) = flat_map (inside (to_le_bytes w32)) xs.now
element_bytes (WrappingU64 xs) = flat_map (inside (to_le_bytes w64)) xs.now
element_bytes (WrappingI8 xs) = flat_map (inside (signed_bytes w8)) xs.now
element_bytes (WrappingI16 xs) = flat_map (inside (signed_bytes w16)) xs.now
element_bytes (WrappingI32 xs) = flat_map (inside (signed_bytes w32)) xs.now
element_bytes (WrappingI64 xs) = flat_map (inside (signed_bytes w64)) xs.now

-- whether the elements are words
abbrev pub are_words : Elements → Bool
are_words (U64 xs) = true
are_words _ = false

-- there are `count` numbers, and each is a byte
pub record IsCounted (count : ℕ) (bs : List ℕ) : Type 0 where
  pub number : count ≡ length bs
  pub bytes : AreBytes bs
