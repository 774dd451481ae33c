-- Ranges of rows.
use Rattle.std.specs.Prelude.{ℕ, List, ◌≤◌, length, slice_range, unwrap_or}
use Rattle.columnar_base.specs.Row.{Row}
use Rattle.columnar_tool.specs.declared.range.Span.{Span}

-- the row after the last one, among this many
abbrev pub last : Span → ℕ → ℕ
last span count = unwrap_or span.to count

-- the range is not backwards, and ends at the last row at most
abbrev pub IsWithin : Span → ℕ → Type 0
IsWithin span count = (span.from ≤ last span count) × (last span count ≤ count)

-- the rows in the range
abbrev pub chosen : Span → List Row → List Row
chosen span rows = slice_range rows span.from (last span (length rows))
