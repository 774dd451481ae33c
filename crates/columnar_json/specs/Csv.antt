-- The record of a row in CSV, as RFC 4180 lays it out.
use Rattle.std.specs.Prelude.{ℕ, Bool, true, false, List, [], ◌∷◌, ◌++◌, ◌==◌, ◌||◌, map, Option, None, Some, codes, if◌then◌else◌, zero, suc}
use Rattle.std.specs.Char.{encode_utf8}
use Rattle.std.specs.Float.{binary32, binary64, float_is_finite}
use Rattle.std.specs.Float.Ieee.{Float}
use Rattle.std.specs.List.{flat_map, list_any}
use Rattle.columnar_base.specs.Row.{Row, unit, number_of, character, some, first_of, second_of}
use Rattle.columnar_base.specs.Solos.{only_of}
use Rattle.columnar_base.specs.Texts.{text_bytes}
use Rattle.columnar_syntax.specs.declared.schema.Brackets.TheVariants.{Bare}
use Rattle.columnar_syntax.specs.declared.schema.Leaf.{Leaf}
use Rattle.columnar_syntax.specs.declared.schema.Leaf.TheVariants.{F32, F64, Char, Unit, Text}
use Rattle.columnar_syntax.specs.declared.schema.Schema.{Schema, Simple, Optional', Solo', Tuple', Beside', Field', Repeated', Recalled', Sum', Named}
use Rattle.columnar_json.specs.Json.{between, commas, json_as, leaf_json}
use Rattle.columnar_json.specs.Pieces.{Piece, bytes, double, float_at, plain, single}

-- ---- values

-- a float, or nothing if it is not finite
abbrev pub finite : Float → Piece → List Piece
finite x p = if float_is_finite x then p ∷ [] else []

abbrev pub character_csv : Row → List ℕ
character_csv (character c) = encode_utf8 c
character_csv _ = []

-- a value without parts: the bytes of a text, nothing for a unit, else as in JSON
abbrev pub leaf_csv : Leaf → Row → List Piece
leaf_csv F32 r = finite (float_at binary32 (number_of r)) (single (float_at binary32 (number_of r)))
leaf_csv F64 r = finite (float_at binary64 (number_of r)) (double (float_at binary64 (number_of r)))
leaf_csv Char r = plain (character_csv r)
leaf_csv Unit r = []
leaf_csv (Text b) r = plain (text_bytes r)
leaf_csv l r = leaf_json l r

-- nothing for a row that is absent
abbrev pub option_csv : (Row → List Piece) → Row → List Piece
option_csv f (some r) = f r
option_csv f _ = []

-- A value: that of an option that is present, of a field, of a run; the name of a variant without a value; if it has parts,
-- its JSON text. A number chooses the variant as in `json_as`.
abbrev pub csv_as : Option ℕ → Schema → Row → List Piece
csv_as v (Simple l) r = leaf_csv l r
csv_as v (Optional' p t) r = option_csv (csv_as None t) r
csv_as v (Solo' Bare p t) r = csv_as None t (only_of r)
csv_as (Some zero) (Beside' p a q u) r = csv_as None a r
csv_as (Some (suc v)) (Beside' p a q u) r = csv_as (Some v) u r
csv_as v (Field' n p t) r = csv_as None t r
csv_as v (Repeated' p t) r = csv_as None t r
csv_as v (Recalled' p t) r = csv_as None t r
csv_as v (Sum' p t) r = csv_as (Some (number_of (first_of r))) t (second_of r)
csv_as v (Named n) r = plain n.items
csv_as v s r = json_as v s r

abbrev pub csv_value : Schema → Row → List Piece
csv_value s r = csv_as None s r

-- ---- records

-- a quote, a comma, an end of a line
abbrev pub is_special : ℕ → Bool
is_special b = (b == 34) || ((b == 44) || ((b == 10) || (b == 13)))

abbrev pub doubled : ℕ → List ℕ
doubled b = if b == 34 then codes "\"\"" else b ∷ []

-- a value as a field: with such a byte between quotes, its own quotes doubled
abbrev pub field_text : List ℕ → List ℕ
field_text bs = if list_any is_special bs then codes "\"" ++ (flat_map doubled bs ++ codes "\"") else bs

-- the same of pieces; floats have no such byte
abbrev pub is_special_piece : Piece → Bool
is_special_piece (bytes bs) = list_any is_special bs
is_special_piece _ = false

abbrev pub doubled_piece : Piece → Piece
doubled_piece (bytes bs) = bytes (flat_map doubled bs)
doubled_piece p = p

abbrev pub field_of : List Piece → List Piece
field_of ps = if list_any is_special_piece ps then between (codes "\"") (codes "\"") (map doubled_piece ps) else ps

abbrev pub is_nothing : List Piece → Bool
is_nothing [] = true
is_nothing (bytes [] ∷ ps) = is_nothing ps
is_nothing _ = false

-- a record without bytes is two quotes
abbrev pub shown : List Piece → List Piece
shown ps = if is_nothing ps then plain (codes "\"\"") else ps

-- ---- the fields of a row: those of a tuple or a struct with their types, or the row itself

abbrev pub later_fields : Schema → Row → List (Schema × Row)
later_fields (Beside' p a q u) r = (a, first_of r) ∷ later_fields u (second_of r)
later_fields s r = (s, r) ∷ []

abbrev pub fields_of : Schema → Row → List (Schema × Row)
fields_of (Solo' k p t) r = (t, only_of r) ∷ []
fields_of (Tuple' k p a q u) r = (a, first_of r) ∷ later_fields u (second_of r)
fields_of s r = (s, r) ∷ []

-- the record of a row: its fields with commas between them
abbrev pub field_csv : Schema → Row → List Piece
field_csv s r = field_of (csv_value s r)

abbrev pub csv_of : Schema → Row → List Piece
csv_of s r = shown (commas (map (λ f. field_csv f.0 f.1) (fields_of s r)))

-- with a comma before each
abbrev pub after_commas : List (List Piece) → List Piece
after_commas ts = flat_map (λ t. plain (codes ",") ++ t) ts

-- ---- the line before the records: the names of the fields of a struct

abbrev pub name_in : Schema → List (List ℕ)
name_in (Field' n p t) = n.items ∷ []
name_in s = []

abbrev pub names_of : Schema → List (List ℕ)
names_of s = flat_map (λ f. name_in f.0) (fields_of s unit)

abbrev pub head_of : List (List ℕ) → List Piece
head_of names = commas (map (λ n. field_of (plain n)) names)
