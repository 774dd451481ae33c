-- Rows of enums: the values of their variants, and what is written of them.
use Rattle.std.proofs.Common.{◌≡◌, ℕ, zero, suc, ◌+◌, ◌*◌, ◌-◌, ◌^◌, ◌<◌, ◌≤◌, Bool, true, false, List, [], ◌∷◌, ◌++◌, length, take, drop, refl, sym, ◌∙◌, ap, arith, subst, append-nil}
use Rattle.std.specs.Prelude.{Some, None, Result, Ok, Err, Vec, codes, slice_get}
use Rattle.std.specs.Global.{Global}
use Rattle.columnar_base.specs.Row.{Row}
use Rattle.columnar_base.specs.Format.{Format, Content, both, Fits, IsSound}
use Rattle.columnar_sums.specs.Discriminants.{discriminant_format, times, variants_of}
use Rattle.columnar_variants.specs.BankByteLaws.{beside_parts_two}
use Rattle.columnar_variants.specs.BankLaws.{later_at, leaf_at}
use Rattle.columnar_variants.specs.VariantByteLaws.{beside_built, variants_built}
use Rattle.columnar_variants.specs.VariantLaws.{variants_read, variants_within}
use Rattle.columnar_variants.specs.Variants.{Bank, case, leaf, join, variants_format}
use Rattle.columnar_schema.specs.BankLaws.{bank_is, one_case, sides_of, sum_rows_of}
use Rattle.columnar_schema.specs.Formats.{bank_of, columns_of, format_of}
use Rattle.columnar_syntax.specs.Gathered.{is_beside}
use Rattle.columnar_schema.specs.TypeLaws.{depth_of}
use Rattle.columnar_syntax.specs.declared.schema.Brackets.{Brackets}
use Rattle.columnar_syntax.specs.declared.schema.Schema.{Schema, Simple, Optional', Fallible', Lists', Solo', Tuple', Beside', Field', Sum', Named, Case'}
use Rattle.columnar_json.specs.Json.{between, closing, flaws_as, flaws_of, json_as, json_of, opening, quoted, row_at, with_name}
use Rattle.columnar_json.specs.PartLaws.{get_row_at, row_at_get}
use Rattle.columnar_json.specs.Pieces.{plain}
use Rattle.columnar_json.specs.Stored.{stored_row, stored_rows, stored_values}
use Rattle.columnar_json.specs.Written.{Wrote, WroteRow}
use Rattle.columnar_json.specs.WrittenLaws.{between_failed, between_wrote, row_goes_on, wrote_plain}
use Rattle.columnar_json.specs.declared.unwritten.Unwritten.{Unwritten}

-- ---- the variant of a row

-- where the variants of rows begin
place_of : (t : Schema) (o : ℕ) → o + (format_of t).count ≡ o + (bank_of t).sides.count
place_of t o = ap (λ n. o + n) (sym (sides_of t))

pub form_in : (s : Schema) {p : _} {t : Schema} (o : ℕ) (ss : List (List ℕ)) (i : ℕ) → s ≡ Sum' p t → i < length (stored_rows s ss o) → i < length (discriminant_format.rows (discriminant_format.build (drop (o + (format_of t).count) ss)))
form_in s {p} {t} o ss i e l =
    let h = sum_rows_of s o ss (length (discriminant_format.rows (discriminant_format.build (drop (o + (format_of t).count) ss)))) e refl in
    omega (arith, h, l)

-- the whole column is sound
sum_sound : (b : Bank) (o : ℕ) (ss : List (List ℕ)) → Fits (variants_format b) o ss → IsSound (variants_format b) (both (b.sides.build (drop o ss)) (discriminant_format.build (drop (o + b.sides.count) ss)))
sum_sound b o ss f = subst (λ (c : Content). IsSound (variants_format b) c) (variants_built b ss o) f.sound

pub case_in : (s : Schema) {p : _} {t : Schema} (o m : ℕ) (ss : List (List ℕ)) (i v n : ℕ) → s ≡ Sum' p t → m ≡ o + (format_of t).count → Fits (format_of s) o ss → slice_get (variants_of (discriminant_format.build (drop m ss))) i ≡ Some v → n ≡ times v (take i (variants_of (discriminant_format.build (drop m ss)))) → (v < (bank_of t).size) × (n < length (stored_values t ss o v))
case_in s {p} {t} o m ss i v n e k f h l =
    let b = bank_of t in
    let g : m ≡ o + b.sides.count = k ∙ place_of t o in
    variants_within b (bank_is (columns_of t).head (columns_of t).others) (sum_sound b o ss (rw e at f)) i v n (rw g at h) (rw g at l)

pub case_row : (s : Schema) {p : _} {t : Schema} (o m : ℕ) (ss : List (List ℕ)) (i v n : ℕ) → s ≡ Sum' p t → m ≡ o + (format_of t).count → Fits (format_of s) o ss → slice_get (variants_of (discriminant_format.build (drop m ss))) i ≡ Some v → n ≡ times v (take i (variants_of (discriminant_format.build (drop m ss)))) → stored_row s ss o i ≡ case v (row_at (stored_values t ss o v) n)
case_row s {p} {t} o m ss i v n e k f h l =
    let b = bank_of t in
    let g : m ≡ o + b.sides.count = k ∙ place_of t o in
    let x = b.sides.build (drop o ss) in
    let y = discriminant_format.build (drop (o + b.sides.count) ss) in
    let w = (case_in s o m ss i v n e k f h l).1 in
    let r = row_at (b.table x v) n in
    let q : slice_get ((variants_format b).rows (both x y)) i ≡ Some (case v r) = variants_read b x y i v n r (rw g at h) (rw g at l) (get_row_at (b.table x v) n w) in
    rw e (row_at_get _ i _ (subst (λ (c : Content). slice_get ((variants_format b).rows c) i ≡ Some (case v r)) (sym (variants_built b ss o)) q))

-- ---- the values of a variant

pub first_values : (s : Schema) {p : _} {a : Schema} {q : _} {u : Schema} (o : ℕ) (ss : List (List ℕ)) (v : ℕ) → s ≡ Beside' p a q u → v ≡ 0 → stored_values s ss o v ≡ stored_rows a ss o
first_values s o ss v e h = rw (e, h) refl

later_table : (a : Format) (b : Bank) (o : ℕ) (ss : List (List ℕ)) (v : ℕ) → (v ≡ 0 → ⊥) → (join a b).table ((join a b).sides.build (drop o ss)) v ≡ b.table (b.sides.build (drop (o + a.count) ss)) (v - 1)
later_table a b o ss v h = ap (λ c. (join a b).table c v) (beside_built a b.sides ss o) ∙ later_at a b (a.build (drop o ss)) (b.sides.build (drop (o + a.count) ss)) v h

pub later_values : (s : Schema) {p : _} {a : Schema} {q : _} {u : Schema} (o : ℕ) (ss : List (List ℕ)) (v : ℕ) → s ≡ Beside' p a q u → (v ≡ 0 → ⊥) → stored_values s ss o v ≡ stored_values u ss (o + (format_of a).count) (v - 1)
later_values s {p} {a} {q} {u} o ss v e h = rw e (later_table (format_of a) (bank_of u) o ss v h)

pub later_known : (s : Schema) {p : _} {a : Schema} {q : _} {u : Schema} (v : ℕ) → s ≡ Beside' p a q u → (v ≡ 0 → ⊥) → v < (bank_of s).size → v - 1 < (bank_of u).size
later_known s {p} {a} {q} {u} v e h l =
    let k : v < suc (bank_of u).size = rw e at l in
    omega (arith, k, h)

-- their rows
pub first_in : (s : Schema) {p : _} {a : Schema} {q : _} {u : Schema} (o : ℕ) (ss : List (List ℕ)) (v i : ℕ) → s ≡ Beside' p a q u → v ≡ 0 → i < length (stored_values s ss o v) → i < length (stored_rows a ss o)
first_in s o ss v i e h l = subst (λ (rs : List Row). i < length rs) (first_values s o ss v e h) l

pub later_value_in : (s : Schema) {p : _} {a : Schema} {q : _} {u : Schema} (o : ℕ) (ss : List (List ℕ)) (v i : ℕ) → s ≡ Beside' p a q u → (v ≡ 0 → ⊥) → i < length (stored_values s ss o v) → i < length (stored_values u ss (o + (format_of a).count) (v - 1))
later_value_in s o ss v i e h l = subst (λ (rs : List Row). i < length rs) (later_values s o ss v e h) l

-- ---- enums and their variants

pub sum_wrote : (s : Schema) {p : _} {t : Schema} (row inner : Row) (v : ℕ) (old new : List ℕ) (r : Result (Unit {0}) Unwritten) → s ≡ Sum' p t → row ≡ case v inner → WroteRow old new (json_as (Some v) t inner) (flaws_as (Some v) t inner) r → WroteRow old new (json_of s row) (flaws_of s row) r
sum_wrote s row inner v old new r e k w = rw (e, k) w

pub named_wrote : (s : Schema) {n : Vec ℕ Global} (row : Row) (old new : List ℕ) (r : Result (Unit {0}) Unwritten) → s ≡ Named n → Wrote old new (quoted n.items) [] r → WroteRow old new (json_of s row) (flaws_of s row) r
named_wrote s {n} row old new r e w = rw e (wrote_plain old new (quoted n.items) [] r w)

-- the name and the value of a variant, between `{` and `}`
pub case_wrote : (s : Schema) {n : Vec ℕ Global} {k : Brackets} {p : _} {t : Schema} (row inner : Row) (old first second new : List ℕ) (r : Result (Unit {0}) Unwritten) → s ≡ Case' n k p t → row ≡ inner → Wrote old first (codes "{") [] (Ok tt) → WroteRow first second (with_name n.items (between (opening k) (closing k) (json_of t inner))) (flaws_of t inner) (Ok tt) → Wrote second new (codes "}") [] r → WroteRow old new (json_of s row) (flaws_of s row) r
case_wrote s {n} {k} {p} {t} row inner old first second new r e h v w x = rw (e, h) (between_wrote old first second new (codes "{") (with_name n.items (between (opening k) (closing k) (json_of t inner))) (codes "}") (flaws_of t inner) r v w x)

pub value_row : (s : Schema) {n : Vec ℕ Global} {k : Brackets} {p : _} {t : Schema} (o : ℕ) (ss : List (List ℕ)) (i : ℕ) → s ≡ Case' n k p t → stored_row s ss o i ≡ stored_row t ss o i
value_row s o ss i e = rw e refl

-- ---- measures

pub cases_measure : (s l : Schema) {p : _} {t : Schema} → s ≡ Sum' p t → l ≡ t → 3 * depth_of l + 1 < 3 * depth_of s
cases_measure s l {p} {t} e k =
    let h : 3 * depth_of t + 1 < 3 * suc (depth_of t) = omega arith in
    rw (e, k) h

pub later_measure : (s l : Schema) {p : _} {a : Schema} {q : _} {u : Schema} → s ≡ Beside' p a q u → l ≡ u → 3 * depth_of l + 1 < 3 * depth_of s + 1
later_measure s l {p} {a} {q} {u} e k =
    let h : 3 * depth_of u + 1 < 3 * suc (depth_of a + depth_of u) + 1 = omega arith in
    rw (e, k) h

pub first_measure : (s l : Schema) {p : _} {a : Schema} {q : _} {u : Schema} → s ≡ Beside' p a q u → l ≡ a → 3 * depth_of l < 3 * depth_of s + 1
first_measure s l {p} {a} {q} {u} e k =
    let h : 3 * depth_of a < 3 * suc (depth_of a + depth_of u) + 1 = omega arith in
    rw (e, k) h
