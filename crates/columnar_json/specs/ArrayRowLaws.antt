-- Rows of arrays: those of lists with bounds as numbers, if they have the length.
use Rattle.std.proofs.Common.{◌≡◌, ℕ, suc, ◌+◌, ◌*◌, ◌-◌, ◌^◌, ◌<◌, ◌≤◌, Bool, true, false, List, [], ◌∷◌, length, take, drop, refl, sym, ◌∙◌, arith}
use Rattle.std.specs.Prelude.{Some, map, slice_get, Result, Err}
use Rattle.std.specs.List.{flat_map}
use Rattle.std.proofs.lemmas.Bool.{eq-eqb, ne_eqb}
use Rattle.std.proofs.lemmas.List.{length-take-le, length-drop}
use Rattle.columnar_base.specs.Row.{Row, number, items_of}
use Rattle.columnar_base.specs.Elements.{words_format}
use Rattle.columnar_base.specs.Format.{Fits}
use Rattle.columnar_core.specs.Bounds.{numbers}
use Rattle.columnar_syntax.specs.declared.schema.Bounds.TheVariants.{Words}
use Rattle.columnar_syntax.specs.declared.schema.Schema.{Schema, Lists', Array'}
use Rattle.columnar_schema.specs.Formats.{format_of}
use Rattle.columnar_schema.specs.TypeLaws.{depth_of}
use Rattle.columnar_json.specs.Json.{bracketed, commas, first_flaw, flaws_of, json_of, length_flaws}
use Rattle.columnar_json.specs.PartLaws.{bound_in, items_fit, items_in, items_row}
use Rattle.columnar_json.specs.Stored.{stored_row, stored_rows}
use Rattle.columnar_json.specs.Written.{WroteRow}
use Rattle.columnar_json.specs.WrittenLaws.{begins}
use Rattle.columnar_json.specs.declared.unwritten.Unwritten.{Unwritten}
use Rattle.columnar_json.specs.declared.unwritten.Unwritten.TheVariants.{WrongLength}

pub array_bound : (s : Schema) {n : _} {p : _} {t : Schema} (o : ℕ) (ss : List (List ℕ)) (i : ℕ) → s ≡ Array' n p t → i < length (stored_rows s ss o) → i < length (words_format.rows (words_format.build (drop o ss)))
array_bound s {n} {p} {t} o ss i e l = bound_in (Lists' Words p t) o ss i refl (rw e at l)

pub array_fit : (s : Schema) {n : _} {p : _} {t : Schema} (o : ℕ) (ss : List (List ℕ)) → s ≡ Array' n p t → Fits (format_of s) o ss → Fits (format_of t) (o + 1) ss
array_fit s {n} {p} {t} o ss e f = items_fit (Lists' Words p t) o ss refl (rw e at f)

pub array_in : (s : Schema) {n : _} {p : _} {t : Schema} (o : ℕ) (ss : List (List ℕ)) (i l u : ℕ) → s ≡ Array' n p t → Fits (format_of s) o ss → slice_get (0 ∷ numbers (words_format.rows (words_format.build (drop o ss)))) i ≡ Some l → slice_get (words_format.rows (words_format.build (drop o ss))) i ≡ Some (number u) → (l ≤ u) × (u ≤ length (stored_rows t ss (o + 1)))
array_in s {n} {p} {t} o ss i l u e f = items_in (Lists' Words p t) o ss i l u refl (rw e at f)

pub array_row : (s : Schema) {n : _} {p : _} {t : Schema} (o : ℕ) (ss : List (List ℕ)) (i l u : ℕ) → s ≡ Array' n p t → slice_get (0 ∷ numbers (words_format.rows (words_format.build (drop o ss)))) i ≡ Some l → slice_get (words_format.rows (words_format.build (drop o ss))) i ≡ Some (number u) → items_of (stored_row s ss o i) ≡ take (u - l) (drop l (stored_rows t ss (o + 1)))
array_row s {n} {p} {t} o ss i l u e q h = rw e (items_row (Lists' Words p t) o ss i l u refl q h)

pub items_length : (ys : List Row) (l u : ℕ) → l ≤ u → u ≤ length ys → length (take (u - l) (drop l ys)) ≡ u - l
items_length ys l u h k = length-take-le (u - l) (drop l ys) (omega (arith, length-drop l ys, h, k))

pub array_falls : (s l : Schema) {n : _} {p : _} {t : Schema} → s ≡ Array' n p t → l ≡ t → 3 * depth_of l + 2 < 3 * depth_of s
array_falls s l {n} {p} {t} e k =
    let h : 3 * depth_of t + 2 < 3 * suc (depth_of t) = omega arith in
    rw (e, k) h

pub array_counted : (s l : Schema) {n : _} {p : _} {t : Schema} → s ≡ Array' n p t → l ≡ t → (format_of s).count ≤ 2 ^ 60 → (format_of l).count ≤ 2 ^ 60
array_counted s l {n} {p} {t} e k h =
    let g : 1 + (format_of t).count ≤ 2 ^ 60 = rw e at h in
    let m : (format_of t).count ≤ 2 ^ 60 = omega (arith, g) in
    rw k m

length_right : (n : ℕ) (rs : List Row) → length rs ≡ n → length_flaws n rs ≡ []
length_right n rs h = rw (eq-eqb (length rs) n h) refl

length_wrong : (n : ℕ) (rs : List Row) → (length rs ≡ n → ⊥) → length_flaws n rs ≡ WrongLength ∷ []
length_wrong n rs h = rw (ne_eqb (length rs) n h) refl

pub array_wrote : (s : Schema) {n : _} {p : _} {t : Schema} (row : Row) (items : List Row) (old new : List ℕ) (r : Result (Unit {0}) Unwritten) → s ≡ Array' n p t → items_of row ≡ items → length items ≡ n → WroteRow old new (bracketed (commas (map (json_of t) items))) (flat_map (flaws_of t) items) r → WroteRow old new (json_of s row) (flaws_of s row) r
array_wrote s {n} row items old new r e k h w = rw (e, k, length_right n items h) w

pub array_refused : (s : Schema) {n : _} {p : _} {t : Schema} (row : Row) (items : List Row) (old : List ℕ) → s ≡ Array' n p t → items_of row ≡ items → (length items ≡ n → ⊥) → WroteRow old old (json_of s row) (flaws_of s row) (Err WrongLength)
array_refused s {n} row items old e k h = (begins old, rw (e, k, length_wrong n items h) refl)
