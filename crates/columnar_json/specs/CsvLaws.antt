-- What is written of a value of CSV, from what is written of its parts.
use Rattle.std.proofs.Common.{◌≡◌, ℕ, List, [], ◌∷◌, ◌∙◌, true, false, refl, sym, subst, T}
use Rattle.std.specs.Prelude.{Result, Ok, Some, Vec, slice_get}
use Rattle.std.specs.Char.{encode_utf8}
use Rattle.std.specs.Float.{binary32, binary64, float_is_finite}
use Rattle.std.specs.Float.Ieee.{Float, fits, to_bits}
use Rattle.std.specs.Global.{Global}
use lib.Ieee.Bits.{to_bits-lt}
use Rattle.columnar_base.specs.Floats.{float_row}
use Rattle.columnar_base.specs.Row.{Row, character, some, none, solo}
use Rattle.columnar_base.specs.Texts.{text_bytes, text_row}
use Rattle.columnar_variants.specs.Variants.{case}
use Rattle.columnar_syntax.specs.declared.schema.Brackets.TheVariants.{Bare}
use Rattle.columnar_syntax.specs.declared.schema.Leaf.{Leaf}
use Rattle.columnar_syntax.specs.declared.schema.Leaf.TheVariants.{F32, F64, Char, Unit as UnitLeaf, Text}
use Rattle.columnar_syntax.specs.declared.schema.Schema.{Schema, Optional', Solo', Field', Repeated', Recalled', Sum', Named}
use Rattle.columnar_json.specs.Csv.{csv_as, csv_value, finite, leaf_csv}
use Rattle.columnar_json.specs.Json.{flaws_as, flaws_of, leaf_flaws, row_at, text_flaws}
use Rattle.columnar_json.specs.PartLaws.{row_at_get}
use Rattle.columnar_json.specs.Pieces.{Piece, double, single}
use Rattle.columnar_json.specs.RealLaws.{place_back}
use Rattle.columnar_json.specs.Written.{Wrote, WroteRow}
use Rattle.columnar_json.specs.WrittenLaws.{wrote_plain}
use Rattle.columnar_json.specs.declared.unwritten.Unwritten.{Unwritten}

-- ---- values without parts

pub finite_wrote : (x : Float) (p : Piece) (old new : List ℕ) (r : Result (Unit {0}) Unwritten) → float_is_finite x ≡ true → WroteRow old new (p ∷ []) [] r → WroteRow old new (finite x p) [] r
finite_wrote x p old new r e w = rw e w

pub no_float : (x : Float) (p : Piece) (old new : List ℕ) (r : Result (Unit {0}) Unwritten) → float_is_finite x ≡ false → Wrote old new [] [] r → WroteRow old new (finite x p) [] r
no_float x p old new r e w = rw e (wrote_plain old new [] [] r w)

pub text_value : (l : Leaf) {b : _} (rs : List Row) (i : ℕ) (bs old new : List ℕ) (r : Result (Unit {0}) Unwritten) → l ≡ Text b → slice_get rs i ≡ Some (text_row bs) → Wrote old new (text_bytes (text_row bs)) (text_flaws (text_bytes (text_row bs))) r → WroteRow old new (leaf_csv l (row_at rs i)) (leaf_flaws l (row_at rs i)) r
text_value l rs i bs old new r e h w = rw (e, row_at_get rs i (text_row bs) h) (wrote_plain old new _ _ r w)

pub character_value : (l : Leaf) (rs : List Row) (i c : ℕ) (old new : List ℕ) (r : Result (Unit {0}) Unwritten) → l ≡ Char → slice_get rs i ≡ Some (character c) → Wrote old new (encode_utf8 c) [] r → WroteRow old new (leaf_csv l (row_at rs i)) (leaf_flaws l (row_at rs i)) r
character_value l rs i c old new r e h w = rw (e, row_at_get rs i (character c) h) (wrote_plain old new (encode_utf8 c) [] r w)

pub unit_value : (l : Leaf) (row : Row) (old new : List ℕ) (r : Result (Unit {0}) Unwritten) → l ≡ UnitLeaf → Wrote old new [] [] r → WroteRow old new (leaf_csv l row) (leaf_flaws l row) r
unit_value l row old new r e w = rw e (wrote_plain old new [] [] r w)

pub single_value : (l : Leaf) (rs : List Row) (i : ℕ) (x : Float) (old new : List ℕ) (r : Result (Unit {0}) Unwritten) → l ≡ F32 → fits binary32 x ≡ true → slice_get rs i ≡ Some (float_row binary32 x) → WroteRow old new (finite x (single x)) [] r → WroteRow old new (leaf_csv l (row_at rs i)) (leaf_flaws l (row_at rs i)) r
single_value l rs i x old new r e k h w = rw (e, row_at_get rs i (float_row binary32 x) h, place_back binary32 x (to_bits-lt binary32 x (subst T (sym k) tt)) (subst T (sym k) tt)) w

pub double_value : (l : Leaf) (rs : List Row) (i : ℕ) (x : Float) (old new : List ℕ) (r : Result (Unit {0}) Unwritten) → l ≡ F64 → fits binary64 x ≡ true → slice_get rs i ≡ Some (float_row binary64 x) → WroteRow old new (finite x (double x)) [] r → WroteRow old new (leaf_csv l (row_at rs i)) (leaf_flaws l (row_at rs i)) r
double_value l rs i x old new r e k h w = rw (e, row_at_get rs i (float_row binary64 x) h, place_back binary64 x (to_bits-lt binary64 x (subst T (sym k) tt)) (subst T (sym k) tt)) w

-- ---- values with parts

pub some_value : (s : Schema) {p : _} {t : Schema} (row inner : Row) (old new : List ℕ) (r : Result (Unit {0}) Unwritten) → s ≡ Optional' p t → row ≡ some inner → WroteRow old new (csv_value t inner) (flaws_of t inner) r → WroteRow old new (csv_value s row) (flaws_of s row) r
some_value s row inner old new r e k w = rw (e, k) w

pub no_value : (s : Schema) {p : _} {t : Schema} (row : Row) (old new : List ℕ) (r : Result (Unit {0}) Unwritten) → s ≡ Optional' p t → row ≡ none → Wrote old new [] [] r → WroteRow old new (csv_value s row) (flaws_of s row) r
no_value s row old new r e k w = rw (e, k) (wrote_plain old new [] [] r w)

pub bare_value : (s : Schema) {p : _} {t : Schema} (row inner : Row) (old new : List ℕ) (r : Result (Unit {0}) Unwritten) → s ≡ Solo' Bare p t → row ≡ solo inner → WroteRow old new (csv_value t inner) (flaws_of t inner) r → WroteRow old new (csv_value s row) (flaws_of s row) r
bare_value s row inner old new r e k w = rw (e, k) w

pub part_value : (s : Schema) {n : Vec ℕ Global} {p : _} {t : Schema} (row inner : Row) (old new : List ℕ) (r : Result (Unit {0}) Unwritten) → s ≡ Field' n p t → row ≡ inner → WroteRow old new (csv_value t inner) (flaws_of t inner) r → WroteRow old new (csv_value s row) (flaws_of s row) r
part_value s row inner old new r e k w = rw (e, k) w

pub repeat_value : (s : Schema) {p : _} {t : Schema} (row inner : Row) (old new : List ℕ) (r : Result (Unit {0}) Unwritten) → s ≡ Repeated' p t → row ≡ inner → WroteRow old new (csv_value t inner) (flaws_of t inner) r → WroteRow old new (csv_value s row) (flaws_of s row) r
repeat_value s row inner old new r e k w = rw (e, k) w

pub recalled_value : (s : Schema) {p : _} {t : Schema} (row inner : Row) (old new : List ℕ) (r : Result (Unit {0}) Unwritten) → s ≡ Recalled' p t → row ≡ inner → WroteRow old new (csv_value t inner) (flaws_of t inner) r → WroteRow old new (csv_value s row) (flaws_of s row) r
recalled_value s row inner old new r e k w = rw (e, k) w

pub sum_value : (s : Schema) {p : _} {t : Schema} (row inner : Row) (v : ℕ) (old new : List ℕ) (r : Result (Unit {0}) Unwritten) → s ≡ Sum' p t → row ≡ case v inner → WroteRow old new (csv_as (Some v) t inner) (flaws_as (Some v) t inner) r → WroteRow old new (csv_value s row) (flaws_of s row) r
sum_value s row inner v old new r e k w = rw (e, k) w

pub name_value : (s : Schema) {n : Vec ℕ Global} (row : Row) (old new : List ℕ) (r : Result (Unit {0}) Unwritten) → s ≡ Named n → Wrote old new n.items [] r → WroteRow old new (csv_value s row) (flaws_of s row) r
name_value s {n} row old new r e w = rw e (wrote_plain old new n.items [] r w)
