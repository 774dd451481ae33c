-- Rows as lines of JSON.
use Rattle.std.specs.Prelude.{ℕ, List, [], ◌∷◌, ◌++◌, ◌≡◌, ◌≢◌, Some}
use Rattle.std.specs.List.{All}
use Rattle.columnar_base.specs.Row.{Row}
use Rattle.columnar_core.specs.Frame.{framed_slices}
use Rattle.columnar_syntax.specs.declared.schema.Schema.{Schema}
use Rattle.columnar_json.specs.Json.{json_of}
use Rattle.columnar_json.specs.Pieces.{Spells}
use Rattle.columnar_json.specs.Stored.{stored_rows}
use Rattle.serde_json.specs.Data.{Data}
use Rattle.serde_json.specs.Read.{read}
use Rattle.columnar_make.specs.Stands.{StandsFor}

-- The line is a JSON value that stands for the value of the row's JSON text.
pub record IsLineOf (s : Schema) (r : Row) (line : List ℕ) : Type 0 where
  pub text : List ℕ
  pub spelled : Spells (json_of s r) text
  pub given : Data
  pub is_given : read line ≡ Some given
  pub written : Data
  pub is_written : read text ≡ Some written
  pub stands : StandsFor given written

-- no end of a line
abbrev pub IsLine : List ℕ → Type 0
IsLine line = All (λ b. b ≢ 10) line

-- the text has a line for each row; the last may end with the text
pub data HasLines (s : Schema) : List Row → List ℕ → Type 0 where
  none : HasLines s [] []
  last : {r : Row} {b : ℕ} {line : List ℕ} → IsLine (b ∷ line) → IsLineOf s r (b ∷ line) → HasLines s (r ∷ []) (b ∷ line)
  more : {r : Row} {rs : List Row} {line rest : List ℕ} → IsLine line → IsLineOf s r line → HasLines s rs rest → HasLines s (r ∷ rs) (line ++ (10 ∷ rest))

-- the rows that accepted bytes encode
abbrev pub rows_in : Schema → List ℕ → List Row
rows_in s bytes = stored_rows s (framed_slices bytes) 0
