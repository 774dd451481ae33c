-- Numbers of a fixed width: their bytes, and the rows of these bytes.
use Rattle.std.specs.Prelude.{ℕ, ℤ, List, ◌%◌, ◌^◌, ◌*◌}
use Rattle.std.specs.Int.{Width, byte_len, to_le_bytes, from_le_bytes, cast_signed, cast_unsigned}
use Rattle.columnar_base.specs.Row.{Row, number, integer}

-- n modulo the width
abbrev pub wrapped : Width → ℕ → ℕ
wrapped w n = n % 2 ^ (8 * byte_len w)

-- an unsigned number
abbrev pub unsigned_row : Width → ℕ → Row
unsigned_row w n = number (wrapped w n)

abbrev pub unsigned_row_of : Width → List ℕ → Row
unsigned_row_of w bs = number (from_le_bytes w bs)

-- a signed number, in two's complement
abbrev pub signed_bytes : Width → ℤ → List ℕ
signed_bytes w z = to_le_bytes w (cast_unsigned w z)

abbrev pub signed_row : Width → ℤ → Row
signed_row w z = integer (cast_signed w (wrapped w (cast_unsigned w z)))

abbrev pub signed_row_of : Width → List ℕ → Row
signed_row_of w bs = integer (cast_signed w (from_le_bytes w bs))
