-- A text as a row.
use Rattle.std.specs.Prelude.{ℕ, List, map}
use Rattle.std.specs.Int.{w8}
use Rattle.columnar_base.specs.Row.{Row, list, number_of, items_of}
use Rattle.columnar_base.specs.Numbers.{unsigned_row}

-- the row of a text: the list of its bytes
abbrev pub text_row : List ℕ → Row
text_row bs = list (map (unsigned_row w8) bs)

-- the bytes of a list of bytes
abbrev pub text_bytes : Row → List ℕ
text_bytes r = map number_of (items_of r)
