-- The report on a row of a store to a program in C, for the text of a type.
use Rattle.std.specs.Prelude.{ℕ, List, [], ◌++◌, ◌≡◌, ◌<◌, ◌≤◌, length, drop}
use Rattle.columnar_base.specs.Row.{Row}
use Rattle.columnar_core.specs.Frame.{framed_slices}
use Rattle.columnar_bytes.specs.Accepted.{Accepts, IsFirstFault}
use Rattle.columnar_schema.specs.Formats.{format_of}
use Rattle.columnar_syntax.specs.declared.schema.Schema.{Schema}
use Rattle.columnar_json.specs.Json.{flaws_of, json_of, row_at}
use Rattle.columnar_json.specs.Pieces.{Spells}
use Rattle.columnar_json.specs.Refusals.{IsRefusal}
use Rattle.columnar_json.specs.Stored.{stored_rows}
use Rattle.columnar_json.specs.declared.unwritten.Unwritten.{Unwritten}
use Rattle.columnar_json.specs.declared.unwritten.Unwritten.TheVariants.{Memory, NoRow, NotText, WrongLength}
use Rattle.columnar_c.specs.Answers.{BreaksFirst, IsTypeOf}
use Rattle.columnar_c.specs.declared.json.Untold.{Untold}
use Rattle.columnar_c.specs.declared.json.Untold.TheVariants.{Broken, Row as RowUntold}

-- the rows of accepted bytes
abbrev pub rows_in : Schema → List ℕ → List Row
rows_in s bytes = stored_rows s (framed_slices bytes) 0

-- Accepted bytes have row i, which has this text and no flaw.
pub record IsRowText (s : Schema) (bytes : List ℕ) (i : ℕ) (text : List ℕ) : Type 0 where
  pub accepted : Accepts (format_of s) bytes
  pub in_range : i < length (rows_in s bytes)
  pub flawless : flaws_of s (row_at (rows_in s bytes) i) ≡ []
  pub is : Spells (json_of s (row_at (rows_in s bytes) i)) text

-- Accepted bytes have no row i, or it is refused.
pub record HasNoText (s : Schema) (bytes : List ℕ) (i : ℕ) (why : Unwritten) : Type 0 where
  pub accepted : Accepts (format_of s) bytes
  pub refused : IsRefusal s (rows_in s bytes) i why
  pub no_row : length (rows_in s bytes) ≤ i → why ≡ NoRow

abbrev pub IsUntold : Schema → List ℕ → ℕ → Untold → Type 0
IsUntold s bytes i (Broken fault) = IsFirstFault (format_of s) bytes fault
IsUntold s bytes i (RowUntold why) = HasNoText s bytes i why

abbrev pub refusal_number : Unwritten → ℕ
refusal_number Memory = 3
refusal_number NoRow = 5
refusal_number NotText = 6
refusal_number WrongLength = 7

-- The buffer begins with the text; after it, it is as before.
pub record Holds (text old new : List ℕ) (written : ℕ) : Type 0 where
  pub bytes : new ≡ text ++ drop (length text) old
  pub fits : length text ≤ length old
  pub count : written ≡ length text

-- The buffer has less room than the text needs.
pub record LacksRoom (text old : List ℕ) (written : ℕ) : Type 0 where
  pub short : length old < length text
  pub count : written ≡ length text

-- The text names a type. What each answer says of row i of the bytes, as a column of it: 0 its text is written; 1 the bytes
-- break a rule; 5 there is no row i; 6 its first flaw is a text that is not UTF-8; 7 it is an array of a wrong
-- length; 8 its text does not fit.
pub record Told (bounds : ℕ) (text bytes : List ℕ) (i answer : ℕ) (old new : List ℕ) (written rule slice : ℕ) : Type 0 where
  pub schema : Schema
  pub named : IsTypeOf bounds text schema
  pub wrote : answer ≡ 0 → (line : List ℕ) × (IsRowText schema bytes i line × Holds line old new written)
  pub broken : answer ≡ 1 → BreaksFirst (format_of schema) bytes rule slice
  pub no_row : answer ≡ 5 → HasNoText schema bytes i NoRow
  pub not_text : answer ≡ 6 → HasNoText schema bytes i NotText
  pub wrong_length : answer ≡ 7 → HasNoText schema bytes i WrongLength
  pub no_room : answer ≡ 8 → (line : List ℕ) × (IsRowText schema bytes i line × LacksRoom line old written)
