-- Iterating over strings in order.
use Rattle.std.specs.Prelude.{ℕ, List, drop}
use Rattle.std.specs.Borrow.{Bor}
use Rattle.std.specs.Int.{to_le_bytes, w8}
use Rattle.columnar_base.specs.Row.{Row}
use Rattle.columnar_base.specs.Format.{both}
use Rattle.columnar_base.specs.Elements.{elements}
use Rattle.columnar_base.specs.Texts.{text_row}
use Rattle.columnar_strings.specs.Strings.{strings_format}
use Rattle.columnar_strings.specs.declared.string.walk.StringIter.{StringIter}

-- the row of borrowed bytes
abbrev pub bytes_row : Bor (List ℕ) → Row
bytes_row s = text_row s.now

-- the strings from the iterator's index on
abbrev pub strings_left : {W : Type 0} {bounds : _} → StringIter W bounds → List Row
strings_left {bounds = bounds} it = drop it.ranges.index ((strings_format bounds.format).rows (both (bounds.content it.bounds) (elements (to_le_bytes w8) it.values.now)))
