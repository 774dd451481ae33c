-- Rows of lookbacks: each is a value, or one of the values before it.
use Rattle.std.proofs.Common.{◌≡◌, ℕ, suc, ◌+◌, ◌*◌, ◌-◌, ◌^◌, ◌<◌, ◌≤◌, true, false, List, [], length, drop, refl, sym, ◌∙◌, ap, arith, subst}
use Rattle.std.specs.Int.{w8}
use Rattle.std.specs.Prelude.{Option, Some, slice_get, Result}
use Rattle.columnar_base.specs.Elements.{bytes_format}
use Rattle.columnar_base.specs.Numbers.{unsigned_row}
use Rattle.columnar_base.specs.Row.{Row, number, truth, ok, err}
use Rattle.columnar_base.specs.Format.{Format, Content, both, Fits, IsSound}
use Rattle.columnar_sums.specs.Counting.{ones}
use Rattle.columnar_sums.specs.RankColumns.{ranks_bits, ranks_format}
use Rattle.columnar_sums.specs.Results.{results_format, weave_results, zeros}
use Rattle.columnar_sums.specs.ResultLaws.{oks_fit, errs_fit, results_at, results_err, results_err_value, results_ok, results_ok_value, results_two}
use Rattle.columnar_base.specs.TwoPartsLaws.{two_fits_left}
use Rattle.columnar_lookback.specs.Recall.{recall}
use Rattle.columnar_lookback.specs.RecallLaws.{length-recall}
use Rattle.columnar_lookback.specs.RepeatLaws.{ones_set, ones_clear}
use Rattle.columnar_lookback.specs.Lookbacks.{distance, lookbacks_code, lookbacks_format}
use Rattle.columnar_lookback.specs.LookbackLaws.{byte_row, lookbacks_reach, lookbacks_results, lookbacks_row, lookbacks_within}
use Rattle.columnar_syntax.specs.declared.schema.Leaf.TheVariants.{U8}
use Rattle.columnar_syntax.specs.declared.schema.Schema.{Schema, Simple, Fallible', Recalled'}
use Rattle.columnar_schema.specs.Formats.{format_of}
use Rattle.columnar_schema.specs.TypeLaws.{depth_of}
use Rattle.columnar_json.specs.Json.{flaws_of, json_of, row_at}
use Rattle.columnar_json.specs.PartLaws.{get_row_at, mark_in, ones_before, row_at_get, zeros_before}
use Rattle.columnar_json.specs.Stored.{stored_row, stored_rows}
use Rattle.columnar_json.specs.Written.{WroteRow}
use Rattle.columnar_json.specs.declared.unwritten.Unwritten.{Unwritten}

rows_below : (t : Format) (o : ℕ) (ss : List (List ℕ)) (i : ℕ) → i < length ((lookbacks_format t bytes_format).rows ((lookbacks_format t bytes_format).build (drop o ss))) → i < length ((results_format t bytes_format).rows ((results_format t bytes_format).build (drop o ss)))
rows_below t o ss i l = omega (arith, l, length-recall lookbacks_code [] ((results_format t bytes_format).rows ((results_format t bytes_format).build (drop o ss))))

pub lookback_bit : (s : Schema) {p : _} {t : Schema} (o : ℕ) (ss : List (List ℕ)) (i : ℕ) → s ≡ Recalled' p t → i < length (stored_rows s ss o) → i < length (ranks_format.rows (ranks_format.build (drop o ss)))
lookback_bit s {p} {t} o ss i e l = mark_in (Fallible' p t p (Simple U8)) o ss i refl (rows_below (format_of t) o ss i (rw e at l))

results_fit : (t : Format) (o : ℕ) (ss : List (List ℕ)) → Fits (lookbacks_format t bytes_format) o ss → Fits (results_format t bytes_format) o ss
results_fit t o ss f = record { room = f.room; sound = lookbacks_results t bytes_format f.sound }

pub recalled_fit : (s : Schema) {p : _} {t : Schema} (o : ℕ) (ss : List (List ℕ)) → s ≡ Recalled' p t → Fits (format_of s) o ss → Fits (format_of t) (o + 3) ss
recalled_fit s {p} {t} o ss e f = oks_fit (format_of t) bytes_format o ss (results_fit (format_of t) o ss (rw e at f))

pub recalled_bits_fit : (s : Schema) {p : _} {t : Schema} (o : ℕ) (ss : List (List ℕ)) → s ≡ Recalled' p t → Fits (format_of s) o ss → Fits ranks_format o ss
recalled_bits_fit s {p} {t} o ss e f = two_fits_left (results_two (format_of t) bytes_format) o ss (results_fit (format_of t) o ss (rw e at f))

pub distances_fit : (s : Schema) {p : _} {t : Schema} (o : ℕ) (ss : List (List ℕ)) → s ≡ Recalled' p t → Fits (format_of s) o ss → Fits bytes_format (o + 3 + (format_of t).count) ss
distances_fit s {p} {t} o ss e f = errs_fit (format_of t) bytes_format o ss (results_fit (format_of t) o ss (rw e at f))

-- the parts, by their places
sound_at : (t : Format) (o : ℕ) (ss : List (List ℕ)) → Fits (lookbacks_format t bytes_format) o ss → IsSound (lookbacks_format t bytes_format) (both (ranks_format.build (drop o ss)) (both (t.build (drop (o + 3) ss)) (bytes_format.build (drop (o + 3 + t.count) ss))))
sound_at t o ss f = subst (λ (c : Content). IsSound (lookbacks_format t bytes_format) c) (sym (results_at t bytes_format o (o + 3) (o + 3 + t.count) ss refl refl refl refl refl)) f.sound

-- row i is value k if its inner row refers to it
recalled_at : (t : Format) (o : ℕ) (ss : List (List ℕ)) (i k : ℕ) (u : Row) → Fits (lookbacks_format t bytes_format) o ss → slice_get (weave_results (ranks_bits (ranks_format.build (drop o ss))) (t.rows (t.build (drop (o + 3) ss))) (bytes_format.rows (bytes_format.build (drop (o + 3 + t.count) ss)))) i ≡ Some u → k + suc (distance u) ≡ ones (ranks_bits (ranks_format.build (drop o ss))) (i + 1) → (k < length (t.rows (t.build (drop (o + 3) ss)))) × (row_at ((lookbacks_format t bytes_format).rows ((lookbacks_format t bytes_format).build (drop o ss))) i ≡ row_at (t.rows (t.build (drop (o + 3) ss))) k)
recalled_at t o ss i k u f h e =
    let vs = t.rows (t.build (drop (o + 3) ss)) in
    let s = sound_at t o ss f in
    let w = lookbacks_within t bytes_format i k u s h e in
    let r = lookbacks_row t bytes_format i k u (row_at vs k) s h e (get_row_at vs k w) in
    (w, row_at_get _ i _ (subst (λ (c : Content). slice_get ((lookbacks_format t bytes_format).rows c) i ≡ Some (row_at vs k)) (results_at t bytes_format o (o + 3) (o + 3 + t.count) ss refl refl refl refl refl) r))

-- the inner row of a set bit
value_inner : (t : Format) (o : ℕ) (ss : List (List ℕ)) (i : ℕ) → Fits (lookbacks_format t bytes_format) o ss → slice_get (ranks_format.rows (ranks_format.build (drop o ss))) i ≡ Some (truth true) → slice_get (weave_results (ranks_bits (ranks_format.build (drop o ss))) (t.rows (t.build (drop (o + 3) ss))) (bytes_format.rows (bytes_format.build (drop (o + 3 + t.count) ss)))) i ≡ Some (ok (row_at (t.rows (t.build (drop (o + 3) ss))) (ones (ranks_bits (ranks_format.build (drop o ss))) i)))
value_inner t o ss i f h =
    let x = ranks_format.build (drop o ss) in
    let y = t.build (drop (o + 3) ss) in
    let z = bytes_format.build (drop (o + 3 + t.count) ss) in
    let w = results_ok_value t bytes_format i (lookbacks_results t bytes_format (sound_at t o ss f)) h in
    results_ok t bytes_format x y z i (row_at (t.rows y) (ones (ranks_bits x) i)) h (get_row_at (t.rows y) (ones (ranks_bits x) i) w)

pub first_value : (s : Schema) {p : _} {t : Schema} (o : ℕ) (ss : List (List ℕ)) (i n : ℕ) → s ≡ Recalled' p t → Fits (format_of s) o ss → slice_get (ranks_format.rows (ranks_format.build (drop o ss))) i ≡ Some (truth true) → n ≡ ones (ranks_bits (ranks_format.build (drop o ss))) i → (n < length (stored_rows t ss (o + 3))) × (stored_row s ss o i ≡ stored_row t ss (o + 3) n)
first_value s {p} {t} o ss i n e f h k =
    let b = ranks_bits (ranks_format.build (drop o ss)) in
    let m = ones_set b i h in
    let g : n + 1 ≡ ones b (i + 1) = omega (arith, m, k) in
    rw e (recalled_at (format_of t) o ss i n (ok (row_at (stored_rows t ss (o + 3)) (ones b i))) (rw e at f) (value_inner (format_of t) o ss i (rw e at f) h) g)

-- a clear bit has a distance
pub distance_in : (s : Schema) {p : _} {t : Schema} (o : ℕ) (ss : List (List ℕ)) (i n : ℕ) → s ≡ Recalled' p t → Fits (format_of s) o ss → i < length (stored_rows s ss o) → slice_get (ranks_format.rows (ranks_format.build (drop o ss))) i ≡ Some (truth false) → n ≡ ones (ranks_bits (ranks_format.build (drop o ss))) i → i - n < length (bytes_format.rows (bytes_format.build (drop (o + 3 + (format_of t).count) ss)))
distance_in s {p} {t} o ss i n e f l h k =
    let a = format_of t in
    let z = zeros_before (Fallible' p t p (Simple U8)) o ss i n refl (rows_below a o ss i (rw e at l)) k in
    let w = results_err_value a bytes_format i (lookbacks_results a bytes_format (sound_at a o ss (rw e at f))) h in
    rw z w

-- the value that it refers to exists, and is the row
pub record LooksBack (s t : Schema) (o : ℕ) (ss : List (List ℕ)) (i n back : ℕ) : Type 0 where
  pub reach : back < n
  pub within : n - 1 - back < length (stored_rows t ss (o + 3))
  pub row : stored_row s ss o i ≡ stored_row t ss (o + 3) (n - 1 - back)

back_of : (t : Format) (o : ℕ) (ss : List (List ℕ)) (i n back : ℕ) → Fits (lookbacks_format t bytes_format) o ss → slice_get (ranks_format.rows (ranks_format.build (drop o ss))) i ≡ Some (truth false) → n ≡ ones (ranks_bits (ranks_format.build (drop o ss))) i → slice_get (bytes_format.rows (bytes_format.build (drop (o + 3 + t.count) ss))) (zeros (ranks_bits (ranks_format.build (drop o ss))) i) ≡ Some (number back) → (back < n) × ((n - 1 - back < length (t.rows (t.build (drop (o + 3) ss)))) × (row_at ((lookbacks_format t bytes_format).rows ((lookbacks_format t bytes_format).build (drop o ss))) i ≡ row_at (t.rows (t.build (drop (o + 3) ss))) (n - 1 - back)))
back_of t o ss i n back f h k d =
    let x = ranks_format.build (drop o ss) in
    let y = t.build (drop (o + 3) ss) in
    let z = bytes_format.build (drop (o + 3 + t.count) ss) in
    let b = ranks_bits x in
    let inner = results_err t bytes_format x y z i (number back) h d in
    let r : back < ones b (i + 1) = lookbacks_reach t bytes_format i (err (number back)) (sound_at t o ss f) inner in
    let c = ones_clear b i h in
    let g : (n - 1 - back) + suc back ≡ ones b (i + 1) = omega (arith, r, c, k) in
    let v = recalled_at t o ss i (n - 1 - back) (err (number back)) f inner g in
    (omega (arith, r, c, k), (v.0, v.1))

pub looks_back : (s : Schema) {p : _} {t : Schema} (o : ℕ) (ss : List (List ℕ)) (i n back : ℕ) → s ≡ Recalled' p t → Fits (format_of s) o ss → i < length (stored_rows s ss o) → slice_get (ranks_format.rows (ranks_format.build (drop o ss))) i ≡ Some (truth false) → n ≡ ones (ranks_bits (ranks_format.build (drop o ss))) i → slice_get (bytes_format.rows (bytes_format.build (drop (o + 3 + (format_of t).count) ss))) (i - n) ≡ Some (number back) → LooksBack s t o ss i n back
looks_back s {p} {t} o ss i n back e f l h k d =
    let a = format_of t in
    let z = zeros_before (Fallible' p t p (Simple U8)) o ss i n refl (rows_below a o ss i (rw e at l)) k in
    let v = back_of a o ss i n back (rw e at f) h k (rw z at d) in
    record { reach = v.0; within = v.1.0; row = rw e (v.1.1) }

-- no more values than rows before a row
pub values_before : (s : Schema) {p : _} {t : Schema} (o : ℕ) (ss : List (List ℕ)) (i n : ℕ) → s ≡ Recalled' p t → n ≡ ones (ranks_bits (ranks_format.build (drop o ss))) i → n ≤ i
values_before s {p} {t} o ss i n e h = ones_before (Fallible' p t p (Simple U8)) o ss i n refl h

pub recalled_falls : (s l : Schema) {p : _} {t : Schema} → s ≡ Recalled' p t → l ≡ t → 3 * depth_of l < 3 * depth_of s
recalled_falls s l {p} {t} e k =
    let h : 3 * depth_of t < 3 * suc (depth_of t) = omega arith in
    rw (e, k) h

pub recalled_counted : (s l : Schema) {p : _} {t : Schema} → s ≡ Recalled' p t → l ≡ t → (format_of s).count ≤ 2 ^ 60 → (format_of l).count ≤ 2 ^ 60
recalled_counted s l {p} {t} e k h =
    let g : 3 + ((format_of t).count + 1) ≤ 2 ^ 60 = rw e at h in
    let m : (format_of t).count ≤ 2 ^ 60 = omega (arith, g) in
    rw k m

pub recalled_wrote : (s : Schema) {p : _} {t : Schema} (row inner : Row) (old new : List ℕ) (r : Result (Unit {0}) Unwritten) → s ≡ Recalled' p t → row ≡ inner → WroteRow old new (json_of t inner) (flaws_of t inner) r → WroteRow old new (json_of s row) (flaws_of s row) r
recalled_wrote s row inner old new r e k w = rw (e, k) w

-- a byte that was read
pub distance_read : (o : Option Row) (n : ℕ) → o ≡ Some (unsigned_row w8 n) → n < 2 ^ 8 → o ≡ Some (number n)
distance_read o n e h = e ∙ ap Some (byte_row n h)
