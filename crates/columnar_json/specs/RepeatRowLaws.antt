-- Rows of repeats: each is the last value up to it.
use Rattle.std.proofs.Common.{◌≡◌, ℕ, suc, ◌+◌, ◌*◌, ◌-◌, ◌^◌, ◌<◌, ◌≤◌, true, false, List, [], length, drop, refl, sym, ◌∙◌, arith, subst}
use Rattle.std.specs.Prelude.{Some, slice_get, Result}
use Rattle.columnar_base.specs.Row.{Row, truth}
use Rattle.columnar_base.specs.Format.{Format, Content, both, Fits, IsSound}
use Rattle.columnar_base.specs.TwoPartsLaws.{two_built, two_fits_left, two_fits_right}
use Rattle.columnar_sums.specs.Counting.{ones}
use Rattle.columnar_sums.specs.RankColumns.{ranks_bits, ranks_format}
use Rattle.columnar_sums.specs.Options.{options_format}
use Rattle.columnar_sums.specs.OptionLaws.{options_two, options_bit}
use Rattle.columnar_lookback.specs.Recall.{recall}
use Rattle.columnar_lookback.specs.RecallLaws.{length-recall}
use Rattle.columnar_lookback.specs.Repeats.{repeats_code, repeats_format}
use Rattle.columnar_lookback.specs.RepeatLaws.{ones_set, ones_clear, ones_left, repeats_options, repeats_row, repeats_some, repeats_within}
use Rattle.columnar_syntax.specs.declared.schema.Schema.{Schema, Optional', Repeated'}
use Rattle.columnar_schema.specs.Formats.{format_of}
use Rattle.columnar_schema.specs.TypeLaws.{depth_of}
use Rattle.columnar_json.specs.Json.{flaws_of, json_of, row_at}
use Rattle.columnar_json.specs.PartLaws.{bit_in, get_row_at, row_at_get}
use Rattle.columnar_json.specs.Stored.{stored_row, stored_rows}
use Rattle.columnar_json.specs.Written.{WroteRow}
use Rattle.columnar_json.specs.declared.unwritten.Unwritten.{Unwritten}

pub repeat_bit : (s : Schema) {p : _} {t : Schema} (o : ℕ) (ss : List (List ℕ)) (i : ℕ) → s ≡ Repeated' p t → i < length (stored_rows s ss o) → i < length (ranks_format.rows (ranks_format.build (drop o ss)))
repeat_bit s {p} {t} o ss i e l =
    let us = stored_rows (Optional' p t) ss o in
    let h : i < length (recall repeats_code [] us) = rw e at l in
    bit_in (Optional' p t) o ss i refl (omega (arith, h, length-recall repeats_code [] us))

pub repeat_fit : (s : Schema) {p : _} {t : Schema} (o : ℕ) (ss : List (List ℕ)) → s ≡ Repeated' p t → Fits (format_of s) o ss → Fits (format_of t) (o + 3) ss
repeat_fit s {p} {t} o ss e f =
    let g : Fits (repeats_format (format_of t)) o ss = rw e at f in
    two_fits_right (options_two (format_of t)) o ss (record { room = g.room; sound = repeats_options (format_of t) g.sound })

pub repeat_bits_fit : (s : Schema) {p : _} {t : Schema} (o : ℕ) (ss : List (List ℕ)) → s ≡ Repeated' p t → Fits (format_of s) o ss → Fits ranks_format o ss
repeat_bits_fit s {p} {t} o ss e f =
    let g : Fits (repeats_format (format_of t)) o ss = rw e at f in
    two_fits_left (options_two (format_of t)) o ss (record { room = g.room; sound = repeats_options (format_of t) g.sound })

-- row i is value k if there are k + 1 values up to it
value_at : (t : Format) (o : ℕ) (ss : List (List ℕ)) (i k : ℕ) → Fits (repeats_format t) o ss → i < length ((repeats_format t).rows ((repeats_format t).build (drop o ss))) → k + 1 ≡ ones (ranks_bits (ranks_format.build (drop o ss))) (i + 1) → (k < length (t.rows (t.build (drop (o + 3) ss)))) × (row_at ((repeats_format t).rows ((repeats_format t).build (drop o ss))) i ≡ row_at (t.rows (t.build (drop (o + 3) ss))) k)
value_at t o ss i k f l e =
    let x = ranks_format.build (drop o ss) in
    let y = t.build (drop (o + 3) ss) in
    let b : (repeats_format t).build (drop o ss) ≡ both x y = two_built (options_two t) ss o in
    let s : IsSound (repeats_format t) (both x y) = subst (λ (c : Content). IsSound (repeats_format t) c) b f.sound in
    let m : i < length ((repeats_format t).rows (both x y)) = subst (λ (c : Content). i < length ((repeats_format t).rows c)) b l in
    let w = repeats_within t i k s m e in
    let r : slice_get ((repeats_format t).rows ((repeats_format t).build (drop o ss))) i ≡ slice_get (t.rows y) k = subst (λ (c : Content). slice_get ((repeats_format t).rows c) i ≡ slice_get (t.rows y) k) (sym b) (repeats_row t i k s m e) in
    (w, row_at_get _ i _ (r ∙ get_row_at (t.rows y) k w))

some_before : (t : Format) (o : ℕ) (ss : List (List ℕ)) (i : ℕ) → Fits (repeats_format t) o ss → i < length ((repeats_format t).rows ((repeats_format t).build (drop o ss))) → 1 ≤ ones (ranks_bits (ranks_format.build (drop o ss))) (i + 1)
some_before t o ss i f l =
    let x = ranks_format.build (drop o ss) in
    let y = t.build (drop (o + 3) ss) in
    let b : (repeats_format t).build (drop o ss) ≡ both x y = two_built (options_two t) ss o in
    repeats_some t i (subst (λ (c : Content). IsSound (repeats_format t) c) b f.sound) (subst (λ (c : Content). i < length ((repeats_format t).rows c)) b l)

-- a row that is a value, and a row that repeats one: the value is there, and is the row
pub new_value : (s : Schema) {p : _} {t : Schema} (o : ℕ) (ss : List (List ℕ)) (i n : ℕ) → s ≡ Repeated' p t → Fits (format_of s) o ss → i < length (stored_rows s ss o) → slice_get (ranks_format.rows (ranks_format.build (drop o ss))) i ≡ Some (truth true) → n ≡ ones (ranks_bits (ranks_format.build (drop o ss))) i → (n < length (stored_rows t ss (o + 3))) × (stored_row s ss o i ≡ stored_row t ss (o + 3) n)
new_value s {p} {t} o ss i n e f l h k =
    let m = ones_set (ranks_bits (ranks_format.build (drop o ss))) i h in
    rw e (value_at (format_of t) o ss i n (rw e at f) (rw e at l) (omega (arith, m, k)))

pub value_again : (s : Schema) {p : _} {t : Schema} (o : ℕ) (ss : List (List ℕ)) (i n : ℕ) → s ≡ Repeated' p t → Fits (format_of s) o ss → i < length (stored_rows s ss o) → slice_get (ranks_format.rows (ranks_format.build (drop o ss))) i ≡ Some (truth false) → n ≡ ones (ranks_bits (ranks_format.build (drop o ss))) i → (n - 1 < length (stored_rows t ss (o + 3))) × (stored_row s ss o i ≡ stored_row t ss (o + 3) (n - 1))
value_again s {p} {t} o ss i n e f l h k =
    let g : 1 ≤ ones (ranks_bits (ranks_format.build (drop o ss))) (i + 1) = some_before (format_of t) o ss i (rw e at f) (rw e at l) in
    let m = ones_left (ranks_bits (ranks_format.build (drop o ss))) i h g in
    rw e (value_at (format_of t) o ss i (n - 1) (rw e at f) (rw e at l) (rw k m))

-- some value stands before a row that repeats one
pub value_before : (s : Schema) {p : _} {t : Schema} (o : ℕ) (ss : List (List ℕ)) (i n : ℕ) → s ≡ Repeated' p t → Fits (format_of s) o ss → i < length (stored_rows s ss o) → slice_get (ranks_format.rows (ranks_format.build (drop o ss))) i ≡ Some (truth false) → n ≡ ones (ranks_bits (ranks_format.build (drop o ss))) i → 1 ≤ n
value_before s {p} {t} o ss i n e f l h k =
    let g : 1 ≤ ones (ranks_bits (ranks_format.build (drop o ss))) (i + 1) = some_before (format_of t) o ss i (rw e at f) (rw e at l) in
    omega (arith, g, k, ones_clear (ranks_bits (ranks_format.build (drop o ss))) i h)

pub repeat_falls : (s l : Schema) {p : _} {t : Schema} → s ≡ Repeated' p t → l ≡ t → 3 * depth_of l < 3 * depth_of s
repeat_falls s l {p} {t} e k =
    let h : 3 * depth_of t < 3 * suc (depth_of t) = omega arith in
    rw (e, k) h

pub repeat_counted : (s l : Schema) {p : _} {t : Schema} → s ≡ Repeated' p t → l ≡ t → (format_of s).count ≤ 2 ^ 60 → (format_of l).count ≤ 2 ^ 60
repeat_counted s l {p} {t} e k h =
    let g : 3 + (format_of t).count ≤ 2 ^ 60 = rw e at h in
    let m : (format_of t).count ≤ 2 ^ 60 = omega (arith, g) in
    rw k m

pub repeat_wrote : (s : Schema) {p : _} {t : Schema} (row inner : Row) (old new : List ℕ) (r : Result (Unit {0}) Unwritten) → s ≡ Repeated' p t → row ≡ inner → WroteRow old new (json_of t inner) (flaws_of t inner) r → WroteRow old new (json_of s row) (flaws_of s row) r
repeat_wrote s row inner old new r e k w = rw (e, k) w
