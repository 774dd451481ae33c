-- What is written of a row, from what is written of its parts.
use Rattle.std.proofs.Common.{◌≡◌, ℕ, List, [], ◌++◌}
use Rattle.std.specs.Prelude.{Result, Ok, Some, Vec, codes, map, slice_get}
use Rattle.std.specs.Global.{Global}
use Rattle.std.specs.List.{flat_map}
use Rattle.columnar_base.specs.Row.{Row, some, none, ok, err, solo, tuple, items_of}
use Rattle.columnar_base.specs.Texts.{text_bytes, text_row}
use Rattle.columnar_syntax.specs.declared.schema.Leaf.{Leaf}
use Rattle.columnar_syntax.specs.declared.schema.Leaf.TheVariants.{Text}
use Rattle.columnar_syntax.specs.declared.schema.Schema.{Schema, Optional', Fallible', Lists', Solo', Tuple', Beside', Field'}
use Rattle.columnar_json.specs.Json.{between, bracketed, closing, commas, flaws_of, json_of, leaf_flaws, leaf_json, opening, quoted, row_at, text_flaws}
use Rattle.columnar_json.specs.PartLaws.{row_at_get}
use Rattle.columnar_json.specs.Pieces.{plain}
use Rattle.columnar_json.specs.Written.{Wrote, WroteRow}
use Rattle.columnar_json.specs.WrittenLaws.{row_goes_on, wrote_plain}
use Rattle.columnar_json.specs.declared.unwritten.Unwritten.{Unwritten}

pub some_wrote : (s : Schema) {p : _} {t : Schema} (row inner : Row) (old new : List ℕ) (r : Result (Unit {0}) Unwritten) → s ≡ Optional' p t → row ≡ some inner → WroteRow old new (json_of t inner) (flaws_of t inner) r → WroteRow old new (json_of s row) (flaws_of s row) r
some_wrote s row inner old new r e k w = rw (e, k) w

pub none_wrote : (s : Schema) {p : _} {t : Schema} (row : Row) (old new : List ℕ) (r : Result (Unit {0}) Unwritten) → s ≡ Optional' p t → row ≡ none → Wrote old new (codes "null") [] r → WroteRow old new (json_of s row) (flaws_of s row) r
none_wrote s row old new r e k w = rw (e, k) (wrote_plain old new (codes "null") [] r w)

pub ok_wrote : (s : Schema) {p : _} {t : Schema} {q : _} {u : Schema} (row inner : Row) (old new : List ℕ) (r : Result (Unit {0}) Unwritten) → s ≡ Fallible' p t q u → row ≡ ok inner → WroteRow old new (between (codes "{\"Ok\":") (codes "}") (json_of t inner)) (flaws_of t inner) r → WroteRow old new (json_of s row) (flaws_of s row) r
ok_wrote s row inner old new r e k w = rw (e, k) w

pub err_wrote : (s : Schema) {p : _} {t : Schema} {q : _} {u : Schema} (row inner : Row) (old new : List ℕ) (r : Result (Unit {0}) Unwritten) → s ≡ Fallible' p t q u → row ≡ err inner → WroteRow old new (between (codes "{\"Err\":") (codes "}") (json_of u inner)) (flaws_of u inner) r → WroteRow old new (json_of s row) (flaws_of s row) r
err_wrote s row inner old new r e k w = rw (e, k) w

pub list_wrote : (s : Schema) {b : _} {p : _} {t : Schema} (row : Row) (items : List Row) (old new : List ℕ) (r : Result (Unit {0}) Unwritten) → s ≡ Lists' b p t → items_of row ≡ items → WroteRow old new (bracketed (commas (map (json_of t) items))) (flat_map (flaws_of t) items) r → WroteRow old new (json_of s row) (flaws_of s row) r
list_wrote s row items old new r e k w = rw (e, k) w

pub solo_wrote : (s : Schema) {br : _} {p : _} {t : Schema} (row inner : Row) (old new : List ℕ) (r : Result (Unit {0}) Unwritten) → s ≡ Solo' br p t → row ≡ solo inner → WroteRow old new (between (opening br) (closing br) (json_of t inner)) (flaws_of t inner) r → WroteRow old new (json_of s row) (flaws_of s row) r
solo_wrote s row inner old new r e k w = rw (e, k) w

pub tuple_wrote : (s : Schema) {br : _} {p : _} {a : Schema} {q : _} {u : Schema} (row x y : Row) (old new : List ℕ) (r : Result (Unit {0}) Unwritten) → s ≡ Tuple' br p a q u → row ≡ tuple x y → WroteRow old new (between (opening br) (closing br) (json_of a x ++ (plain (codes ",") ++ json_of u y))) (flaws_of a x ++ flaws_of u y) r → WroteRow old new (json_of s row) (flaws_of s row) r
tuple_wrote s row x y old new r e k w = rw (e, k) w

pub beside_wrote : (s : Schema) {p : _} {a : Schema} {q : _} {u : Schema} (row x y : Row) (old new : List ℕ) (r : Result (Unit {0}) Unwritten) → s ≡ Beside' p a q u → row ≡ tuple x y → WroteRow old new (json_of a x ++ (plain (codes ",") ++ json_of u y)) (flaws_of a x ++ flaws_of u y) r → WroteRow old new (json_of s row) (flaws_of s row) r
beside_wrote s row x y old new r e k w = rw (e, k) w

pub field_wrote : (s : Schema) {n : Vec ℕ Global} {p : _} {t : Schema} (row inner : Row) (old mid new : List ℕ) (r : Result (Unit {0}) Unwritten) → s ≡ Field' n p t → row ≡ inner → Wrote old mid (quoted n.items) [] (Ok tt) → WroteRow mid new (between (codes ":") [] (json_of t inner)) (flaws_of t inner) r → WroteRow old new (json_of s row) (flaws_of s row) r
field_wrote s {n} {p} {t} row inner old mid new r e k v w = rw (e, k) (row_goes_on old mid new (plain (quoted n.items)) (between (codes ":") [] (json_of t inner)) [] (flaws_of t inner) r (wrote_plain old mid (quoted n.items) [] (Ok tt) v) w)

-- texts, numbers and other rows without parts
pub text_wrote : (l : Leaf) {b : _} (rs : List Row) (i : ℕ) (bs old new : List ℕ) (r : Result (Unit {0}) Unwritten) → l ≡ Text b → slice_get rs i ≡ Some (text_row bs) → Wrote old new (quoted (text_bytes (text_row bs))) (text_flaws (text_bytes (text_row bs))) r → WroteRow old new (leaf_json l (row_at rs i)) (leaf_flaws l (row_at rs i)) r
text_wrote l rs i bs old new r e h w = rw (e, row_at_get rs i (text_row bs) h) (wrote_plain old new _ _ r w)
