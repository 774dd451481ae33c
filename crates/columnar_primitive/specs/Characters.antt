-- Characters, by their codes.
use Rattle.std.specs.Prelude.{ℕ, Bool, ◌&&◌, not, nat_le}
use Rattle.columnar_base.specs.Row.{Row, character, number_of}

-- whether the number is the code of a character: at most 0x10FFFF, and no surrogate
abbrev pub is_scalar : ℕ → Bool
is_scalar n = nat_le n 0x10FFFF && not (nat_le 0xD800 n && nat_le n 0xDFFF)

-- the same for the row of a number
abbrev pub is_character : Row → Bool
is_character r = is_scalar (number_of r)

-- the character of a code
abbrev pub as_character : Row → Row
as_character r = character (number_of r)
