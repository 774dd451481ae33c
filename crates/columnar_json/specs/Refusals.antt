-- Why a row of a store was not written.
use Rattle.std.specs.Prelude.{ℕ, List, ◌≡◌, ◌≤◌, Some, length}
use Rattle.columnar_base.specs.Row.{Row}
use Rattle.columnar_core.specs.Frame.{framed_slices}
use Rattle.columnar_syntax.specs.declared.schema.Schema.{Schema}
use Rattle.columnar_json.specs.Json.{first_flaw, flaws_of, row_at}
use Rattle.columnar_json.specs.Stored.{stored_rows}
use Rattle.columnar_json.specs.Views.{flaws_by}
use Rattle.columnar_json.specs.declared.rows.Rows.{Rows}
use Rattle.columnar_json.specs.declared.unwritten.Unwritten.{Unwritten}
use Rattle.columnar_json.specs.declared.unwritten.Unwritten.TheVariants.{Memory, NoRow, NotText, WrongLength}
use Rattle.columnar_json.specs.declared.view.View.{View}

-- the rows of an accepted store
abbrev pub all_rows : Rows → List Row
all_rows r = stored_rows r.schema.now (framed_slices r.bytes.now) 0

-- An allocation failed, there is no row i, or this is its first flaw.
abbrev pub IsRefusal : Schema → List Row → ℕ → Unwritten → Type 0
IsRefusal s rs i Memory = Unit {0}
IsRefusal s rs i NoRow = length rs ≤ i
IsRefusal s rs i NotText = first_flaw (flaws_of s (row_at rs i)) ≡ Some NotText
IsRefusal s rs i WrongLength = first_flaw (flaws_of s (row_at rs i)) ≡ Some WrongLength

-- the same for what a view writes
abbrev pub IsRefusalBy : View → Schema → List Row → ℕ → Unwritten → Type 0
IsRefusalBy v s rs i Memory = Unit {0}
IsRefusalBy v s rs i NoRow = length rs ≤ i
IsRefusalBy v s rs i NotText = first_flaw (flaws_by v s (row_at rs i)) ≡ Some NotText
IsRefusalBy v s rs i WrongLength = first_flaw (flaws_by v s (row_at rs i)) ≡ Some WrongLength
