-- What a view writes of a row.
use Rattle.std.specs.Prelude.{ℕ, Bool, false, List, [], ◌∷◌, ◌++◌, map, Option, None, Some, option_map, bytes_eq, codes, if◌then◌else◌}
use Rattle.std.specs.List.{flat_map}
use Rattle.columnar_base.specs.Row.{Row}
use Rattle.columnar_syntax.specs.declared.schema.Schema.{Schema, Field'}
use Rattle.columnar_json.specs.Csv.{csv_of, field_csv, fields_of, head_of, names_of, shown}
use Rattle.columnar_json.specs.Json.{between, commas, flaws_of, json_of}
use Rattle.columnar_json.specs.Pieces.{Piece, plain}
use Rattle.columnar_json.specs.declared.unwritten.Unwritten.{Unwritten}
use Rattle.columnar_json.specs.declared.view.Form.{Form}
use Rattle.columnar_json.specs.declared.view.Form.TheVariants.{Json, Csv}
use Rattle.columnar_json.specs.declared.view.View.{View}

-- the names of the chosen fields; none if all are
abbrev pub chosen : View → Option (List (List ℕ))
chosen v = option_map (λ names. map (λ n. n.now) names.now) v.fields

-- ---- a field by its name

abbrev pub is_named : List ℕ → Schema → Bool
is_named n (Field' m p t) = bytes_eq m.items n
is_named n s = false

-- what is told of the field with this name; nothing if there is none
abbrev pub of_named : {A : Type 0} → (Schema → Row → List A) → List ℕ → List (Schema × Row) → List A
of_named f n [] = []
of_named f n (x ∷ xs) = if is_named n x.0 then f x.0 x.1 else of_named f n xs

-- the text of a field: with its name in JSON, between commas in CSV
abbrev pub field_in : Form → Schema → Row → List Piece
field_in Json s r = json_of s r
field_in Csv s r = field_csv s r

-- the texts of the fields with these names, with commas between them
abbrev pub fields_in : Form → List (List ℕ) → Schema → Row → List Piece
fields_in form names s r = commas (map (λ n. of_named (field_in form) n (fields_of s r)) names)

-- ---- the text of a row

abbrev pub text_in : Form → Option (List (List ℕ)) → Schema → Row → List Piece
text_in Json None s r = json_of s r
text_in Json (Some names) s r = between (codes "{") (codes "}") (fields_in Json names s r)
text_in Csv None s r = csv_of s r
text_in Csv (Some names) s r = shown (fields_in Csv names s r)

abbrev pub text_by : View → Schema → Row → List Piece
text_by v s r = text_in v.form (chosen v) s r

-- what of it has no text
abbrev pub flaws_in : Option (List (List ℕ)) → Schema → Row → List Unwritten
flaws_in None s r = flaws_of s r
flaws_in (Some names) s r = flat_map (λ n. of_named flaws_of n (fields_of s r)) names

abbrev pub flaws_by : View → Schema → Row → List Unwritten
flaws_by v s r = flaws_in (chosen v) s r

-- ---- the line before the rows: the names of the fields of a struct, for CSV

abbrev pub names_line : List (List ℕ) → List Piece
names_line [] = []
names_line names = head_of names ++ plain (codes "\n")

abbrev pub head_in : Form → Option (List (List ℕ)) → Schema → List Piece
head_in Json names s = []
head_in Csv None s = names_line (names_of s)
head_in Csv (Some names) s = names_line names

abbrev pub head_by : View → Schema → List Piece
head_by v s = head_in v.form (chosen v) s
