-- The JSON text of a row, as the Rust crate `serde_json` writes a value of the type.
use Rattle.std.specs.Prelude.{ℕ, Bool, true, false, List, [], ◌∷◌, ◌++◌, ◌/◌, ◌%◌, ◌==◌, length, map, slice_get, nat_lt, Option, Some, None, codes, decimal, if◌then◌else◌, zero, suc}
use Rattle.std.specs.Float.{binary32, binary64}
use Rattle.std.specs.Char.{digit_char, encode_utf8}
use Rattle.std.specs.Fmt.{signed_decimal}
use Rattle.std.specs.List.{flat_map}
use Rattle.std.specs.Str.{is_utf8}
use Rattle.columnar_base.specs.Row.{Row, number_of, number, integer, character, truth, unit, duration, some, ok, err, first_of, second_of, items_of}
use Rattle.columnar_base.specs.Solos.{only_of}
use Rattle.columnar_base.specs.Texts.{text_bytes}
use Rattle.columnar_syntax.specs.declared.schema.Brackets.{Brackets}
use Rattle.columnar_syntax.specs.declared.schema.Brackets.TheVariants.{Square, Curly, Bare}
use Rattle.columnar_syntax.specs.declared.schema.Leaf.{Leaf}
use Rattle.columnar_syntax.specs.declared.schema.Leaf.TheVariants.{F32, F64, Text}
use Rattle.columnar_syntax.specs.declared.schema.Schema.{Schema, Simple, Optional', Fallible', Lists', Solo', Tuple', Beside', Field', Array', Repeated', Recalled', Sum', Named, Case'}
use Rattle.columnar_json.specs.Pieces.{Piece, single, double, plain, float_at}
use Rattle.columnar_json.specs.declared.unwritten.Unwritten.{Unwritten}
use Rattle.columnar_json.specs.declared.unwritten.Unwritten.TheVariants.{NotText, WrongLength}

-- row i, or a unit if there is none
abbrev pub row_in : Option Row → Row
row_in None = unit
row_in (Some r) = r

abbrev pub row_at : List Row → ℕ → Row
row_at rs i = row_in (slice_get rs i)

-- a byte of a text, between quotes
abbrev pub escaped : ℕ → List ℕ
escaped b =
    if b == 34 then codes "\\\"" else (
    if b == 92 then codes "\\\\" else (
    if b == 8 then codes "\\b" else (
    if b == 9 then codes "\\t" else (
    if b == 10 then codes "\\n" else (
    if b == 12 then codes "\\f" else (
    if b == 13 then codes "\\r" else (
    if nat_lt b 32 then codes "\\u00" ++ (digit_char (b / 16) ∷ digit_char (b % 16) ∷ []) else b ∷ [])))))))

abbrev pub quoted : List ℕ → List ℕ
quoted bs = codes "\"" ++ (flat_map escaped bs ++ codes "\"")

abbrev pub truth_json : Bool → List ℕ
truth_json true = codes "true"
truth_json false = codes "false"

abbrev pub duration_json : ℕ → ℕ → List ℕ
duration_json s n = codes "{\"secs\":" ++ (decimal s ++ (codes ",\"nanos\":" ++ (decimal n ++ codes "}")))

-- a value without parts
abbrev pub value_json : Row → List ℕ
value_json (number n) = decimal n
value_json (integer z) = signed_decimal z
value_json (character c) = quoted (encode_utf8 c)
value_json (truth b) = truth_json b
value_json (duration s n) = duration_json s n
value_json _ = codes "null"

abbrev pub leaf_json : Leaf → Row → List Piece
leaf_json (Text b) r = plain (quoted (text_bytes r))
leaf_json F32 r = single (float_at binary32 (number_of r)) ∷ []
leaf_json F64 r = double (float_at binary64 (number_of r)) ∷ []
leaf_json l r = plain (value_json r)

-- texts with commas between them
abbrev pub commas : List (List Piece) → List Piece
commas [] = []
commas (t ∷ ts) = t ++ flat_map (λ u. plain (codes ",") ++ u) ts

abbrev pub between : List ℕ → List ℕ → List Piece → List Piece
between before after t = plain before ++ (t ++ plain after)

abbrev pub bracketed : List Piece → List Piece
bracketed t = between (codes "[") (codes "]") t

-- what stands before the fields of a type, and after them
abbrev pub opening : Brackets → List ℕ
opening Square = codes "["
opening Curly = codes "{"
opening Bare = []

abbrev pub closing : Brackets → List ℕ
closing Square = codes "]"
closing Curly = codes "}"
closing Bare = []

-- the name of a field, and its text
abbrev pub with_name : List ℕ → List Piece → List Piece
with_name name t = plain (quoted name) ++ between (codes ":") [] t

-- a row that may be absent, by the text of one that is not
abbrev pub option_json : (Row → List Piece) → Row → List Piece
option_json f (some r) = f r
option_json f _ = plain (codes "null")

-- a value or an error, by the texts of both
abbrev pub result_json : (Row → List Piece) → (Row → List Piece) → Row → List Piece
result_json f g (ok r) = between (codes "{\"Ok\":") (codes "}") (f r)
result_json f g (err r) = between (codes "{\"Err\":") (codes "}") (g r)
result_json f g _ = []

-- The text of a row of the type; of the fields of a tuple from the second on, without brackets; or, if a number is given, of
-- a value of the variant with this number among the variants of an enum. It says nothing of a row with a flaw.
abbrev pub json_as : Option ℕ → Schema → Row → List Piece
json_as v (Simple l) r = leaf_json l r
json_as v (Optional' p t) r = option_json (json_as None t) r
json_as v (Fallible' p t q u) r = result_json (json_as None t) (json_as None u) r
json_as v (Lists' b p t) r = bracketed (commas (map (json_as None t) (items_of r)))
json_as v (Solo' k p t) r = between (opening k) (closing k) (json_as None t (only_of r))
json_as v (Tuple' k p a q u) r = between (opening k) (closing k) (json_as None a (first_of r) ++ (plain (codes ",") ++ json_as None u (second_of r)))
json_as None (Beside' p a q u) r = json_as None a (first_of r) ++ (plain (codes ",") ++ json_as None u (second_of r))
json_as (Some zero) (Beside' p a q u) r = json_as None a r
json_as (Some (suc v)) (Beside' p a q u) r = json_as (Some v) u r
json_as v (Field' n p t) r = with_name n.items (json_as None t r)
json_as v (Array' n p t) r = bracketed (commas (map (json_as None t) (items_of r)))
json_as v (Repeated' p t) r = json_as None t r
json_as v (Recalled' p t) r = json_as None t r
json_as v (Sum' p t) r = json_as (Some (number_of (first_of r))) t (second_of r)
json_as v (Named n) r = plain (quoted n.items)
json_as v (Case' n k p t) r = between (codes "{") (codes "}") (with_name n.items (between (opening k) (closing k) (json_as None t r)))

abbrev pub json_of : Schema → Row → List Piece
json_of s r = json_as None s r

-- a text that is not UTF-8
abbrev pub text_flaws : List ℕ → List Unwritten
text_flaws bs = if is_utf8 bs then [] else (NotText ∷ [])

abbrev pub leaf_flaws : Leaf → Row → List Unwritten
leaf_flaws (Text b) r = text_flaws (text_bytes r)
leaf_flaws _ r = []

-- a list of another length than n
abbrev pub length_flaws : ℕ → List Row → List Unwritten
length_flaws n rs = if length rs == n then [] else (WrongLength ∷ [])

abbrev pub option_flaws : (Row → List Unwritten) → Row → List Unwritten
option_flaws f (some r) = f r
option_flaws f _ = []

abbrev pub result_flaws : (Row → List Unwritten) → (Row → List Unwritten) → Row → List Unwritten
result_flaws f g (ok r) = f r
result_flaws f g (err r) = g r
result_flaws f g _ = []

-- what of a row has no text, in the order of the row, as `json_as` does; of an array first its length
abbrev pub flaws_as : Option ℕ → Schema → Row → List Unwritten
flaws_as v (Simple l) r = leaf_flaws l r
flaws_as v (Optional' p t) r = option_flaws (flaws_as None t) r
flaws_as v (Fallible' p t q u) r = result_flaws (flaws_as None t) (flaws_as None u) r
flaws_as v (Lists' b p t) r = flat_map (flaws_as None t) (items_of r)
flaws_as v (Solo' k p t) r = flaws_as None t (only_of r)
flaws_as v (Tuple' k p a q u) r = flaws_as None a (first_of r) ++ flaws_as None u (second_of r)
flaws_as None (Beside' p a q u) r = flaws_as None a (first_of r) ++ flaws_as None u (second_of r)
flaws_as (Some zero) (Beside' p a q u) r = flaws_as None a r
flaws_as (Some (suc v)) (Beside' p a q u) r = flaws_as (Some v) u r
flaws_as v (Field' n p t) r = flaws_as None t r
flaws_as v (Array' n p t) r = length_flaws n (items_of r) ++ flat_map (flaws_as None t) (items_of r)
flaws_as v (Repeated' p t) r = flaws_as None t r
flaws_as v (Recalled' p t) r = flaws_as None t r
flaws_as v (Sum' p t) r = flaws_as (Some (number_of (first_of r))) t (second_of r)
flaws_as v (Named n) r = []
flaws_as v (Case' n k p t) r = flaws_as None t r

abbrev pub flaws_of : Schema → Row → List Unwritten
flaws_of s r = flaws_as None s r

abbrev pub first_flaw : List Unwritten → Option Unwritten
first_flaw [] = None
first_flaw (x ∷ xs) = Some x
