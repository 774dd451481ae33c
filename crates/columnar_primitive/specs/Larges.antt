-- Numbers of 128 bits, stored as arrays of their bytes.
use Rattle.std.specs.Prelude.{ℕ, List, map}
use Rattle.std.specs.Int.{from_le_bytes, cast_signed, w128}
use Rattle.columnar_base.specs.Row.{Row, number, integer, number_of, items_of}

-- the bytes of an array
abbrev pub large_bytes : Row → List ℕ
large_bytes r = map number_of (items_of r)

-- the number of these bytes
abbrev pub as_u128 : Row → Row
as_u128 r = number (from_le_bytes w128 (large_bytes r))

-- the same in two's complement
abbrev pub as_i128 : Row → Row
as_i128 r = integer (cast_signed w128 (from_le_bytes w128 (large_bytes r)))
