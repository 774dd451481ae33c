-- A number of rows, stored as one 64-bit word.
use Rattle.std.specs.Prelude.{ℕ, Bool, false, length, nat_eq}
use Rattle.std.specs.Int.{to_le_bytes, from_le_bytes, w64}
use Rattle.columnar_base.specs.Format.{Content, slice, both, part, plain}

-- whether the content is a slice of exactly one word
abbrev pub is_word : Content → Bool
is_word (slice bs) = nat_eq (length bs) 8
is_word (both x y) = false
is_word (part l u x) = false
is_word (plain rs) = false

-- the number in the word
abbrev pub number_in : Content → ℕ
number_in (slice bs) = from_le_bytes w64 bs
number_in (both x y) = 0
number_in (part l u x) = 0
number_in (plain rs) = 0

-- the slice of a number
abbrev pub word_of : ℕ → Content
word_of n = slice (to_le_bytes w64 n)
