-- The lines that the program prints for the rows of a file.
use Rattle.std.specs.Prelude.{ℕ, List, Option, ◌++◌, ◌≡◌, ◌<◌, ◌≤◌, length, slice_range, codes}
use Rattle.std.specs.Io.KnownBytes.{Appends}
use Rattle.std.specs.List.{flat_map}
use Rattle.columnar_base.specs.Row.{Row}
use Rattle.columnar_bytes.specs.Accepted.{Accepts, IsFirstFault}
use Rattle.columnar_core.specs.Frame.{framed_slices}
use Rattle.columnar_syntax.specs.declared.schema.Schema.{Schema}
use Rattle.columnar_schema.specs.Formats.{format_of}
use Rattle.columnar_json.specs.Pieces.{Piece, Spells, plain}
use Rattle.columnar_json.specs.Refusals.{IsRefusalBy}
use Rattle.columnar_json.specs.Stored.{stored_rows}
use Rattle.columnar_json.specs.Views.{text_by}
use Rattle.columnar_json.specs.declared.view.View.{View}
use Rattle.columnar_tool.specs.declared.cat.Stop.{Stop}
use Rattle.columnar_tool.specs.declared.cat.Stop.TheVariants.{Failed, Refused, Beyond, Row as RowStop}
use Rattle.columnar_tool.specs.declared.range.Span.{Span}
use Rattle.columnar_tool.specs.Spans.{IsWithin, last}

-- the rows that accepted bytes encode
abbrev pub rows_in : Schema → List ℕ → List Row
rows_in s bytes = stored_rows s (framed_slices bytes) 0

-- a line for each row
abbrev pub line_of : View → Schema → Row → List Piece
line_of v s r = text_by v s r ++ plain (codes "\n")

abbrev pub lines_of : View → Schema → List Row → List Piece
lines_of v s rs = flat_map (line_of v s) rs

-- such a text was printed
abbrev pub Prints : Option (List ℕ) → Option (List ℕ) → List Piece → Type 0
Prints old new ps = (t : List ℕ) × (Appends old new t × Spells ps t)

-- Row i has no line, or the program failed.
abbrev pub HasNoLine : View → Schema → List Row → ℕ → Stop → Type 0
HasNoLine v s rs i (Failed why) = Unit {0}
HasNoLine v s rs i (Refused fault) = ⊥
HasNoLine v s rs i (Beyond count) = ⊥
HasNoLine v s rs i (RowStop j why) = (j ≡ i) × IsRefusalBy v s rs i why

-- Of the rows from one up to another, those before one without a line were printed, or the program failed.
abbrev pub StopsBetween : View → Schema → List Row → ℕ → ℕ → Option (List ℕ) → Option (List ℕ) → Stop → Type 0
StopsBetween v s rs from to old new (Failed why) = Unit {0}
StopsBetween v s rs from to old new (Refused fault) = ⊥
StopsBetween v s rs from to old new (Beyond count) = ⊥
StopsBetween v s rs from to old new (RowStop i why) = (from ≤ i) × (i < to) × Prints old new (lines_of v s (slice_range rs from i)) × IsRefusalBy v s rs i why

-- the same of the rows in a range, or nothing was printed since they are not all there
abbrev pub StopsAtRow : View → Schema → Span → List Row → Option (List ℕ) → Option (List ℕ) → Stop → Type 0
StopsAtRow v s span rs old new (Failed why) = Unit {0}
StopsAtRow v s span rs old new (Refused fault) = ⊥
StopsAtRow v s span rs old new (Beyond count) = (count ≡ length rs) × (¬ IsWithin span count) × (new ≡ old)
StopsAtRow v s span rs old new (RowStop i why) = IsWithin span (length rs) × StopsBetween v s rs span.from (last span (length rs)) old new (RowStop i why)

-- the same, or nothing was printed of bytes that break a rule
abbrev pub Stops : View → Schema → Span → List ℕ → Option (List ℕ) → Option (List ℕ) → Stop → Type 0
Stops v s span bytes old new (Failed why) = Unit {0}
Stops v s span bytes old new (Refused fault) = IsFirstFault (format_of s) bytes fault × (new ≡ old)
Stops v s span bytes old new (Beyond count) = Accepts (format_of s) bytes × StopsAtRow v s span (rows_in s bytes) old new (Beyond count)
Stops v s span bytes old new (RowStop i why) = Accepts (format_of s) bytes × StopsAtRow v s span (rows_in s bytes) old new (RowStop i why)
