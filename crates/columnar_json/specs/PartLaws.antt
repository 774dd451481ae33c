-- The parts of a type in the slices of a store, and the rows that theirs make.
use Rattle.std.proofs.Common.{◌≡◌, ℕ, zero, suc, ◌+◌, ◌*◌, ◌-◌, ◌^◌, ◌<◌, ◌≤◌, true, false, List, [], ◌∷◌, length, take, drop, refl, sym, ◌∙◌, ap, arith, subst}
use Rattle.std.specs.Prelude.{Some, map, min, slice_get}
use Rattle.columnar_base.specs.Row.{Row, number, truth, tuple, some, none, ok, err, solo, list, items_of}
use Rattle.columnar_base.specs.RowLaws.{items_of-list}
use Rattle.columnar_base.specs.Format.{Format, Content, both, Fits, IsSound}
use Rattle.columnar_base.specs.LongTuples.{nested, sides, tuple_format}
use Rattle.columnar_base.specs.LongTupleLaws.{sides_two, tuple_two}
use Rattle.columnar_base.specs.SoloLaws.{solo_length}
use Rattle.columnar_base.specs.Solos.{solo_format}
use Rattle.columnar_base.specs.TupleLaws.{slice_get-tuples}
use Rattle.columnar_base.specs.Tuples.{tuples}
use Rattle.columnar_base.specs.TwoPartsLaws.{two_built, two_fits_right}
use Rattle.columnar_core.specs.Bounds.{numbers}
use Rattle.columnar_core.specs.BoundLaws.{number_get}
use Rattle.columnar_sums.specs.Counting.{ones}
use Rattle.columnar_sums.specs.RankColumns.{ranks_bits, ranks_format}
use Rattle.columnar_sums.specs.CountLaws.{ones_le}
use Rattle.columnar_sums.specs.Options.{options_format}
use Rattle.columnar_sums.specs.OptionLaws.{options_two, options_bit, options_value, options_some, options_absent}
use Rattle.columnar_sums.specs.Results.{results_format, zeros}
use Rattle.columnar_sums.specs.ResultLaws.{oks_fit, errs_fit, results_at, results_bit, results_clear_of, results_ok_value, results_err_value, results_ok, results_err}
use Rattle.columnar_lists.specs.Lists.{lists_format}
use Rattle.columnar_lists.specs.CutLaws.{cut_get, rises_get}
use Rattle.columnar_lists.specs.ListLaws.{lists_two, lists_parts, length-lists}
use Rattle.columnar_syntax.specs.declared.schema.Schema.{Schema, Optional', Fallible', Lists', Solo', Tuple', Beside', Field'}
use Rattle.columnar_schema.specs.Formats.{bounds_format, columns_of, format_of}
use Rattle.columnar_schema.specs.TypeLaws.{depth_of, optional_two, lists_of_two, tuple_rows_of, beside_rows_of}
use Rattle.columnar_json.specs.Json.{row_at}
use Rattle.columnar_json.specs.Stored.{stored_row, stored_rows}

pub get_row_at : (rs : List Row) (i : ℕ) → i < length rs → slice_get rs i ≡ Some (row_at rs i)
get_row_at [] i l = absurd (omega arith)
get_row_at (r ∷ rs) zero l = refl
get_row_at (r ∷ rs) (suc i) l = get_row_at rs i (omega arith)

pub row_at_get : (rs : List Row) (i : ℕ) (r : Row) → slice_get rs i ≡ Some r → row_at rs i ≡ r
row_at_get rs i r h = rw h refl

-- ---- options

pub somes_fit : (s : Schema) {p : _} {t : Schema} (o : ℕ) (ss : List (List ℕ)) → s ≡ Optional' p t → Fits (format_of s) o ss → Fits (format_of t) (o + 3) ss
somes_fit s o ss e f = two_fits_right (optional_two s e) o ss f

pub bit_in : (s : Schema) {p : _} {t : Schema} (o : ℕ) (ss : List (List ℕ)) (i : ℕ) → s ≡ Optional' p t → i < length (stored_rows s ss o) → i < length (ranks_format.rows (ranks_format.build (drop o ss)))
bit_in s {p} {t} o ss i e l = options_bit (format_of t) (ranks_format.build (drop o ss)) ((format_of t).build (drop 3 (drop o ss))) i (rw e at l)

value_in : (t : Format) (o : ℕ) (ss : List (List ℕ)) (i : ℕ) → Fits (options_format t) o ss → slice_get (ranks_format.rows (ranks_format.build (drop o ss))) i ≡ Some (truth true) → ones (ranks_bits (ranks_format.build (drop o ss))) i < length (t.rows (t.build (drop (o + 3) ss)))
value_in t o ss i f h = options_value t i (rw (two_built (options_two t) ss o) at f.sound) h

pub some_in : (s : Schema) {p : _} {t : Schema} (o : ℕ) (ss : List (List ℕ)) (i : ℕ) → s ≡ Optional' p t → Fits (format_of s) o ss → slice_get (ranks_format.rows (ranks_format.build (drop o ss))) i ≡ Some (truth true) → ones (ranks_bits (ranks_format.build (drop o ss))) i < length (stored_rows t ss (o + 3))
some_in s {p} {t} o ss i e f h = value_in (format_of t) o ss i (rw e at f) h

value_some : (t : Format) (o : ℕ) (ss : List (List ℕ)) (i : ℕ) → Fits (options_format t) o ss → slice_get (ranks_format.rows (ranks_format.build (drop o ss))) i ≡ Some (truth true) → slice_get ((options_format t).rows ((options_format t).build (drop o ss))) i ≡ Some (some (row_at (t.rows (t.build (drop (o + 3) ss))) (ones (ranks_bits (ranks_format.build (drop o ss))) i)))
value_some t o ss i f h =
    let y = t.build (drop (o + 3) ss) in
    let x = ranks_format.build (drop o ss) in
    let n = ones (ranks_bits x) i in
    subst (λ (c : Content). slice_get ((options_format t).rows c) i ≡ Some (some (row_at (t.rows y) n))) (sym (two_built (options_two t) ss o)) (options_some t x y i (row_at (t.rows y) n) h (get_row_at (t.rows y) n (value_in t o ss i f h)))

value_none : (t : Format) (o : ℕ) (ss : List (List ℕ)) (i : ℕ) → slice_get (ranks_format.rows (ranks_format.build (drop o ss))) i ≡ Some (truth false) → slice_get ((options_format t).rows ((options_format t).build (drop o ss))) i ≡ Some none
value_none t o ss i h = subst (λ (c : Content). slice_get ((options_format t).rows c) i ≡ Some none) (sym (two_built (options_two t) ss o)) (options_absent t (ranks_format.build (drop o ss)) (t.build (drop (o + 3) ss)) i h)

pub some_row : (s : Schema) {p : _} {t : Schema} (o : ℕ) (ss : List (List ℕ)) (i : ℕ) → s ≡ Optional' p t → Fits (format_of s) o ss → slice_get (ranks_format.rows (ranks_format.build (drop o ss))) i ≡ Some (truth true) → stored_row s ss o i ≡ some (stored_row t ss (o + 3) (ones (ranks_bits (ranks_format.build (drop o ss))) i))
some_row s {p} {t} o ss i e f h = rw e (row_at_get _ i _ (value_some (format_of t) o ss i (rw e at f) h))

pub none_row : (s : Schema) {p : _} {t : Schema} (o : ℕ) (ss : List (List ℕ)) (i : ℕ) → s ≡ Optional' p t → slice_get (ranks_format.rows (ranks_format.build (drop o ss))) i ≡ Some (truth false) → stored_row s ss o i ≡ none
none_row s {p} {t} o ss i e h = rw e (row_at_get _ i _ (value_none (format_of t) o ss i h))

-- ---- results

pub values_fit : (s : Schema) {p : _} {t : Schema} {q : _} {u : Schema} (o : ℕ) (ss : List (List ℕ)) → s ≡ Fallible' p t q u → Fits (format_of s) o ss → Fits (format_of t) (o + 3) ss
values_fit s {p} {t} {q} {u} o ss e f = oks_fit (format_of t) (format_of u) o ss (rw e at f)

pub errors_fit : (s : Schema) {p : _} {t : Schema} {q : _} {u : Schema} (o : ℕ) (ss : List (List ℕ)) → s ≡ Fallible' p t q u → Fits (format_of s) o ss → Fits (format_of u) (o + 3 + (format_of t).count) ss
errors_fit s {p} {t} {q} {u} o ss e f = errs_fit (format_of t) (format_of u) o ss (rw e at f)

-- the parts of a column of results, by their places
fallible_built : (a b : Format) (o : ℕ) (ss : List (List ℕ)) → both (ranks_format.build (drop o ss)) (both (a.build (drop (o + 3) ss)) (b.build (drop (o + 3 + a.count) ss))) ≡ (results_format a b).build (drop o ss)
fallible_built a b o ss = results_at a b o (o + 3) (o + 3 + a.count) ss refl refl refl refl refl

fallible_sound : (a b : Format) (o : ℕ) (ss : List (List ℕ)) → Fits (results_format a b) o ss → IsSound (results_format a b) (both (ranks_format.build (drop o ss)) (both (a.build (drop (o + 3) ss)) (b.build (drop (o + 3 + a.count) ss))))
fallible_sound a b o ss f = subst (λ (c : Content). IsSound (results_format a b) c) (sym (fallible_built a b o ss)) f.sound

fallible_below : (a b : Format) (o : ℕ) (ss : List (List ℕ)) (i : ℕ) → i < length ((results_format a b).rows ((results_format a b).build (drop o ss))) → i < length ((results_format a b).rows (both (ranks_format.build (drop o ss)) (both (a.build (drop (o + 3) ss)) (b.build (drop (o + 3 + a.count) ss)))))
fallible_below a b o ss i l = subst (λ (c : Content). i < length ((results_format a b).rows c)) (sym (fallible_built a b o ss)) l

pub mark_in : (s : Schema) {p : _} {t : Schema} {q : _} {u : Schema} (o : ℕ) (ss : List (List ℕ)) (i : ℕ) → s ≡ Fallible' p t q u → i < length (stored_rows s ss o) → i < length (ranks_format.rows (ranks_format.build (drop o ss)))
mark_in s {p} {t} {q} {u} o ss i e l =
    let a = format_of t in
    let b = format_of u in
    results_bit a b (ranks_format.build (drop o ss)) (a.build (drop (o + 3) ss)) (b.build (drop (o + 3 + a.count) ss)) i (fallible_below a b o ss i (rw e at l))

value_of_ok : (a b : Format) (o : ℕ) (ss : List (List ℕ)) (i : ℕ) → Fits (results_format a b) o ss → slice_get (ranks_format.rows (ranks_format.build (drop o ss))) i ≡ Some (truth true) → ones (ranks_bits (ranks_format.build (drop o ss))) i < length (a.rows (a.build (drop (o + 3) ss)))
value_of_ok a b o ss i f h = results_ok_value a b i (fallible_sound a b o ss f) h

value_of_err : (a b : Format) (o : ℕ) (ss : List (List ℕ)) (i : ℕ) → Fits (results_format a b) o ss → slice_get (ranks_format.rows (ranks_format.build (drop o ss))) i ≡ Some (truth false) → zeros (ranks_bits (ranks_format.build (drop o ss))) i < length (b.rows (b.build (drop (o + 3 + a.count) ss)))
value_of_err a b o ss i f h = results_err_value a b i (fallible_sound a b o ss f) h

row_of_ok : (a b : Format) (o : ℕ) (ss : List (List ℕ)) (i : ℕ) → Fits (results_format a b) o ss → slice_get (ranks_format.rows (ranks_format.build (drop o ss))) i ≡ Some (truth true) → slice_get ((results_format a b).rows ((results_format a b).build (drop o ss))) i ≡ Some (ok (row_at (a.rows (a.build (drop (o + 3) ss))) (ones (ranks_bits (ranks_format.build (drop o ss))) i)))
row_of_ok a b o ss i f h =
    let x = ranks_format.build (drop o ss) in
    let y = a.build (drop (o + 3) ss) in
    let z = b.build (drop (o + 3 + a.count) ss) in
    let n = ones (ranks_bits x) i in
    subst (λ (c : Content). slice_get ((results_format a b).rows c) i ≡ Some (ok (row_at (a.rows y) n))) (fallible_built a b o ss) (results_ok a b x y z i (row_at (a.rows y) n) h (get_row_at (a.rows y) n (value_of_ok a b o ss i f h)))

row_of_err : (a b : Format) (o : ℕ) (ss : List (List ℕ)) (i : ℕ) → Fits (results_format a b) o ss → slice_get (ranks_format.rows (ranks_format.build (drop o ss))) i ≡ Some (truth false) → slice_get ((results_format a b).rows ((results_format a b).build (drop o ss))) i ≡ Some (err (row_at (b.rows (b.build (drop (o + 3 + a.count) ss))) (zeros (ranks_bits (ranks_format.build (drop o ss))) i)))
row_of_err a b o ss i f h =
    let x = ranks_format.build (drop o ss) in
    let y = a.build (drop (o + 3) ss) in
    let z = b.build (drop (o + 3 + a.count) ss) in
    let n = zeros (ranks_bits x) i in
    subst (λ (c : Content). slice_get ((results_format a b).rows c) i ≡ Some (err (row_at (b.rows z) n))) (fallible_built a b o ss) (results_err a b x y z i (row_at (b.rows z) n) h (get_row_at (b.rows z) n (value_of_err a b o ss i f h)))

-- the number of clear bits before a row
pub zeros_before : (s : Schema) {p : _} {t : Schema} {q : _} {u : Schema} (o : ℕ) (ss : List (List ℕ)) (i n : ℕ) → s ≡ Fallible' p t q u → i < length (stored_rows s ss o) → n ≡ ones (ranks_bits (ranks_format.build (drop o ss))) i → i - n ≡ zeros (ranks_bits (ranks_format.build (drop o ss))) i
zeros_before s {p} {t} {q} {u} o ss i n e l h =
    let a = format_of t in
    let b = format_of u in
    let k : i < length ((results_format a b).rows (both (ranks_format.build (drop o ss)) (both (a.build (drop (o + 3) ss)) (b.build (drop (o + 3 + a.count) ss))))) = fallible_below a b o ss i (rw e at l) in
    results_clear_of a b (ranks_format.build (drop o ss)) (a.build (drop (o + 3) ss)) (b.build (drop (o + 3 + a.count) ss)) i n h (omega (arith, k))

pub ok_in : (s : Schema) {p : _} {t : Schema} {q : _} {u : Schema} (o : ℕ) (ss : List (List ℕ)) (i : ℕ) → s ≡ Fallible' p t q u → Fits (format_of s) o ss → slice_get (ranks_format.rows (ranks_format.build (drop o ss))) i ≡ Some (truth true) → ones (ranks_bits (ranks_format.build (drop o ss))) i < length (stored_rows t ss (o + 3))
ok_in s {p} {t} {q} {u} o ss i e f h = value_of_ok (format_of t) (format_of u) o ss i (rw e at f) h

pub err_in : (s : Schema) {p : _} {t : Schema} {q : _} {u : Schema} (o : ℕ) (ss : List (List ℕ)) (i : ℕ) → s ≡ Fallible' p t q u → Fits (format_of s) o ss → slice_get (ranks_format.rows (ranks_format.build (drop o ss))) i ≡ Some (truth false) → zeros (ranks_bits (ranks_format.build (drop o ss))) i < length (stored_rows u ss (o + 3 + (format_of t).count))
err_in s {p} {t} {q} {u} o ss i e f h = value_of_err (format_of t) (format_of u) o ss i (rw e at f) h

pub ok_row : (s : Schema) {p : _} {t : Schema} {q : _} {u : Schema} (o : ℕ) (ss : List (List ℕ)) (i : ℕ) → s ≡ Fallible' p t q u → Fits (format_of s) o ss → slice_get (ranks_format.rows (ranks_format.build (drop o ss))) i ≡ Some (truth true) → stored_row s ss o i ≡ ok (stored_row t ss (o + 3) (ones (ranks_bits (ranks_format.build (drop o ss))) i))
ok_row s {p} {t} {q} {u} o ss i e f h = rw e (row_at_get _ i _ (row_of_ok (format_of t) (format_of u) o ss i (rw e at f) h))

pub err_row : (s : Schema) {p : _} {t : Schema} {q : _} {u : Schema} (o : ℕ) (ss : List (List ℕ)) (i : ℕ) → s ≡ Fallible' p t q u → Fits (format_of s) o ss → slice_get (ranks_format.rows (ranks_format.build (drop o ss))) i ≡ Some (truth false) → stored_row s ss o i ≡ err (stored_row u ss (o + 3 + (format_of t).count) (zeros (ranks_bits (ranks_format.build (drop o ss))) i))
err_row s {p} {t} {q} {u} o ss i e f h = rw e (row_at_get _ i _ (row_of_err (format_of t) (format_of u) o ss i (rw e at f) h))

-- ---- lists

pub items_fit : (s : Schema) {b : _} {p : _} {t : Schema} (o : ℕ) (ss : List (List ℕ)) → s ≡ Lists' b p t → Fits (format_of s) o ss → Fits (format_of t) (o + (bounds_format b).count) ss
items_fit s o ss e f = two_fits_right (lists_of_two s e) o ss f

pub bound_in : (s : Schema) {b : _} {p : _} {t : Schema} (o : ℕ) (ss : List (List ℕ)) (i : ℕ) → s ≡ Lists' b p t → i < length (stored_rows s ss o) → i < length ((bounds_format b).rows ((bounds_format b).build (drop o ss)))
bound_in s {b} {p} {t} o ss i e l =
    let f = bounds_format b in
    let x = f.build (drop o ss) in
    let y = (format_of t).build (drop f.count (drop o ss)) in
    let h : i < length ((lists_format f (format_of t)).rows (both x y)) = rw e at l in
    omega (arith, h, length-lists f (format_of t) x y)

range_in : (f t : Format) (o : ℕ) (ss : List (List ℕ)) (i l u : ℕ) → Fits (lists_format f t) o ss → slice_get (0 ∷ numbers (f.rows (f.build (drop o ss)))) i ≡ Some l → slice_get (f.rows (f.build (drop o ss))) i ≡ Some (number u) → (l ≤ u) × (u ≤ length (t.rows (t.build (drop (o + f.count) ss))))
range_in f t o ss i l u h p k =
    let x = f.build (drop o ss) in
    let y = t.build (drop (o + f.count) ss) in
    let g : IsSound (lists_format f t) (both x y) = subst (λ (c : Content). IsSound (lists_format f t) c) (two_built (lists_two f t) ss o) h.sound in
    let q = lists_parts f t g in
    rises_get i 0 (numbers (f.rows x)) (length (t.rows y)) l u q.rise p (number_get (f.rows x) i u k)

pub items_in : (s : Schema) {b : _} {p : _} {t : Schema} (o : ℕ) (ss : List (List ℕ)) (i l u : ℕ) → s ≡ Lists' b p t → Fits (format_of s) o ss → slice_get (0 ∷ numbers ((bounds_format b).rows ((bounds_format b).build (drop o ss)))) i ≡ Some l → slice_get ((bounds_format b).rows ((bounds_format b).build (drop o ss))) i ≡ Some (number u) → (l ≤ u) × (u ≤ length (stored_rows t ss (o + (bounds_format b).count)))
items_in s {b} {p} {t} o ss i l u e f = range_in (bounds_format b) (format_of t) o ss i l u (rw e at f)

row_of_list : (f t : Format) (o : ℕ) (ss : List (List ℕ)) (i l u : ℕ) → slice_get (0 ∷ numbers (f.rows (f.build (drop o ss)))) i ≡ Some l → slice_get (f.rows (f.build (drop o ss))) i ≡ Some (number u) → slice_get ((lists_format f t).rows ((lists_format f t).build (drop o ss))) i ≡ Some (list (take (u - l) (drop l (t.rows (t.build (drop (o + f.count) ss))))))
row_of_list f t o ss i l u p h =
    let x = f.build (drop o ss) in
    let ys = t.rows (t.build (drop (o + f.count) ss)) in
    subst (λ (c : Content). slice_get ((lists_format f t).rows c) i ≡ Some (list (take (u - l) (drop l ys)))) (sym (two_built (lists_two f t) ss o)) (cut_get i 0 (numbers (f.rows x)) ys l u p (number_get (f.rows x) i u h))

pub items_row : (s : Schema) {b : _} {p : _} {t : Schema} (o : ℕ) (ss : List (List ℕ)) (i l u : ℕ) → s ≡ Lists' b p t → slice_get (0 ∷ numbers ((bounds_format b).rows ((bounds_format b).build (drop o ss)))) i ≡ Some l → slice_get ((bounds_format b).rows ((bounds_format b).build (drop o ss))) i ≡ Some (number u) → items_of (stored_row s ss o i) ≡ take (u - l) (drop l (stored_rows t ss (o + (bounds_format b).count)))
items_row s {b} {p} {t} o ss i l u e q h =
    let ys = stored_rows t ss (o + (bounds_format b).count) in
    let k = row_at_get _ i _ (row_of_list (bounds_format b) (format_of t) o ss i l u q h) in
    rw e (ap items_of k ∙ items_of-list (take (u - l) (drop l ys)))

-- ---- tuples

pub only_in : (s : Schema) {br : _} {p : _} {t : Schema} (o : ℕ) (ss : List (List ℕ)) (i : ℕ) → s ≡ Solo' br p t → i < length (stored_rows s ss o) → i < length (stored_rows t ss o)
only_in s {br} {p} {t} o ss i e l =
    let h : i < length ((solo_format (format_of t)).rows ((format_of t).build (drop o ss))) = rw e at l in
    omega (arith, h, solo_length (format_of t) ((format_of t).build (drop o ss)))

row_at-solos : (rs : List Row) (i : ℕ) → i < length rs → row_at (map solo rs) i ≡ solo (row_at rs i)
row_at-solos [] i l = absurd (omega arith)
row_at-solos (r ∷ rs) zero l = refl
row_at-solos (r ∷ rs) (suc i) l = row_at-solos rs i (omega arith)

pub only_row : (s : Schema) {br : _} {p : _} {t : Schema} (o : ℕ) (ss : List (List ℕ)) (i : ℕ) → s ≡ Solo' br p t → i < length (stored_rows s ss o) → stored_row s ss o i ≡ solo (stored_row t ss o i)
only_row s {br} {p} {t} o ss i e l =
    let k = only_in s o ss i e l in
    rw e (row_at-solos (stored_rows t ss o) i k)

nested_rows : (b : Format) (fs : List Format) (c : Content) → (nested b fs).rows c ≡ (sides b fs).rows c
nested_rows b [] c = refl
nested_rows b (g ∷ fs) c = refl

-- both parts have a row if the whole has it
pub fields_in : (s : Schema) {br : _} {p : _} {a : Schema} {q : _} {r : Schema} (o : ℕ) (ss : List (List ℕ)) (i : ℕ) → s ≡ Tuple' br p a q r → i < length (stored_rows s ss o) → (i < length (stored_rows a ss o)) × (i < length (stored_rows r ss (o + (format_of a).count)))
fields_in s {br} {p} {a} {q} {r} o ss i e l =
    let n = length (stored_rows a ss o) in
    let m = length (stored_rows r ss (o + (format_of a).count)) in
    let h : min n m ≡ length (stored_rows s ss o) = tuple_rows_of s o ss n m (min n m) e refl refl refl in
    (omega (arith, h, l), omega (arith, h, l))

pub later_in : (s : Schema) {p : _} {a : Schema} {q : _} {r : Schema} (o : ℕ) (ss : List (List ℕ)) (i : ℕ) → s ≡ Beside' p a q r → i < length (stored_rows s ss o) → (i < length (stored_rows a ss o)) × (i < length (stored_rows r ss (o + (format_of a).count)))
later_in s {p} {a} {q} {r} o ss i e l =
    let n = length (stored_rows a ss o) in
    let m = length (stored_rows r ss (o + (format_of a).count)) in
    let h : min n m ≡ length (stored_rows s ss o) = beside_rows_of s o ss n m (min n m) e refl refl refl in
    (omega (arith, h, l), omega (arith, h, l))

row_of_both : (a b : Format) (fs : List Format) (x y : Content) (i : ℕ) → i < length (a.rows x) → i < length ((sides b fs).rows y) → row_at (tuples (a.rows x) ((nested b fs).rows y)) i ≡ tuple (row_at (a.rows x) i) (row_at ((sides b fs).rows y) i)
row_of_both a b fs x y i l k =
    let e = nested_rows b fs y in
    rw e (row_at_get _ i _ (slice_get-tuples i (a.rows x) ((sides b fs).rows y) (row_at (a.rows x) i) (row_at ((sides b fs).rows y) i) (get_row_at (a.rows x) i l) (get_row_at ((sides b fs).rows y) i k)))

pub fields_row : (s : Schema) {br : _} {p : _} {a : Schema} {q : _} {r : Schema} (o : ℕ) (ss : List (List ℕ)) (i : ℕ) → s ≡ Tuple' br p a q r → i < length (stored_rows s ss o) → stored_row s ss o i ≡ tuple (stored_row a ss o i) (stored_row r ss (o + (format_of a).count) i)
fields_row s {br} {p} {a} {q} {r} o ss i e l =
    let k = fields_in s o ss i e l in
    let f = format_of a in
    let c = columns_of r in
    let x = f.build (drop o ss) in
    let y = (format_of r).build (drop (o + f.count) ss) in
    let w = row_of_both f c.head c.others x y i k.0 k.1 in
    rw e (subst (λ (d : Content). row_at ((tuple_format f c.head c.others).rows d) i ≡ tuple (row_at (f.rows x) i) (row_at ((format_of r).rows y) i)) (sym (two_built (tuple_two f c.head c.others) ss o)) w)

pub later_row : (s : Schema) {p : _} {a : Schema} {q : _} {r : Schema} (o : ℕ) (ss : List (List ℕ)) (i : ℕ) → s ≡ Beside' p a q r → i < length (stored_rows s ss o) → stored_row s ss o i ≡ tuple (stored_row a ss o i) (stored_row r ss (o + (format_of a).count) i)
later_row s {p} {a} {q} {r} o ss i e l =
    let k = later_in s o ss i e l in
    let f = format_of a in
    let c = columns_of r in
    let x = f.build (drop o ss) in
    let y = (format_of r).build (drop (o + f.count) ss) in
    let w = row_of_both f c.head c.others x y i k.0 k.1 in
    rw e (subst (λ (d : Content). row_at ((sides f (c.head ∷ c.others)).rows d) i ≡ tuple (row_at (f.rows x) i) (row_at ((format_of r).rows y) i)) (sym (two_built (sides_two f c.head c.others) ss o)) w)

-- ---- named fields

pub part_row : (s : Schema) {n : _} {p : _} {t : Schema} (o : ℕ) (ss : List (List ℕ)) (i : ℕ) → s ≡ Field' n p t → stored_row s ss o i ≡ stored_row t ss o i
part_row s o ss i e = rw e refl

-- ---- measures, and numbers of slices

pub some_falls : (s l : Schema) {p : _} {t : Schema} → s ≡ Optional' p t → l ≡ t → 3 * depth_of l < 3 * depth_of s
some_falls s l {p} {t} e k =
    let h : 3 * depth_of t < 3 * suc (depth_of t) = omega arith in
    rw (e, k) h

pub ok_falls : (s l : Schema) {p : _} {t : Schema} {q : _} {u : Schema} → s ≡ Fallible' p t q u → l ≡ t → 3 * depth_of l + 1 < 3 * depth_of s
ok_falls s l {p} {t} {q} {u} e k =
    let h : 3 * depth_of t + 1 < 3 * suc (depth_of t + depth_of u) = omega arith in
    rw (e, k) h

pub err_falls : (s l : Schema) {p : _} {t : Schema} {q : _} {u : Schema} → s ≡ Fallible' p t q u → l ≡ u → 3 * depth_of l + 1 < 3 * depth_of s
err_falls s l {p} {t} {q} {u} e k =
    let h : 3 * depth_of u + 1 < 3 * suc (depth_of t + depth_of u) = omega arith in
    rw (e, k) h

pub items_fall : (s l : Schema) {b : _} {p : _} {t : Schema} → s ≡ Lists' b p t → l ≡ t → 3 * depth_of l + 2 < 3 * depth_of s
items_fall s l {b} {p} {t} e k =
    let h : 3 * depth_of t + 2 < 3 * suc (depth_of t) = omega arith in
    rw (e, k) h

pub fields_fall : (s l m : Schema) {br : _} {p : _} {a : Schema} {q : _} {r : Schema} → s ≡ Tuple' br p a q r → l ≡ a → m ≡ r → 3 * (depth_of l + depth_of m) + 1 < 3 * depth_of s
fields_fall s l m {br} {p} {a} {q} {r} e k n =
    let h : 3 * (depth_of a + depth_of r) + 1 < 3 * suc (depth_of a + depth_of r) = omega arith in
    rw (e, k, n) h

pub later_falls : (s l m : Schema) {p : _} {a : Schema} {q : _} {r : Schema} → s ≡ Beside' p a q r → l ≡ a → m ≡ r → 3 * (depth_of l + depth_of m) + 1 < 3 * depth_of s
later_falls s l m {p} {a} {q} {r} e k n =
    let h : 3 * (depth_of a + depth_of r) + 1 < 3 * suc (depth_of a + depth_of r) = omega arith in
    rw (e, k, n) h

pub some_counted : (s l : Schema) {p : _} {t : Schema} → s ≡ Optional' p t → l ≡ t → (format_of s).count ≤ 2 ^ 60 → (format_of l).count ≤ 2 ^ 60
some_counted s l {p} {t} e k h =
    let g : 3 + (format_of t).count ≤ 2 ^ 60 = rw e at h in
    let m : (format_of t).count ≤ 2 ^ 60 = omega (arith, g) in
    rw k m

pub ok_counted : (s l : Schema) {p : _} {t : Schema} {q : _} {u : Schema} → s ≡ Fallible' p t q u → l ≡ t → (format_of s).count ≤ 2 ^ 60 → (format_of l).count ≤ 2 ^ 60
ok_counted s l {p} {t} {q} {u} e k h =
    let g : 3 + ((format_of t).count + (format_of u).count) ≤ 2 ^ 60 = rw e at h in
    let m : (format_of t).count ≤ 2 ^ 60 = omega (arith, g) in
    rw k m

pub err_counted : (s l : Schema) {p : _} {t : Schema} {q : _} {u : Schema} → s ≡ Fallible' p t q u → l ≡ u → (format_of s).count ≤ 2 ^ 60 → (format_of l).count ≤ 2 ^ 60
err_counted s l {p} {t} {q} {u} e k h =
    let g : 3 + ((format_of t).count + (format_of u).count) ≤ 2 ^ 60 = rw e at h in
    let m : (format_of u).count ≤ 2 ^ 60 = omega (arith, g) in
    rw k m

pub items_counted : (s l : Schema) {b : _} {p : _} {t : Schema} → s ≡ Lists' b p t → l ≡ t → (format_of s).count ≤ 2 ^ 60 → (format_of l).count ≤ 2 ^ 60
items_counted s l {b} {p} {t} e k h =
    let g : (bounds_format b).count + (format_of t).count ≤ 2 ^ 60 = rw e at h in
    let m : (format_of t).count ≤ 2 ^ 60 = omega (arith, g) in
    rw k m

-- no more set bits than rows
pub ones_before : (s : Schema) {p : _} {t : Schema} {q : _} {u : Schema} (o : ℕ) (ss : List (List ℕ)) (i n : ℕ) → s ≡ Fallible' p t q u → n ≡ ones (ranks_bits (ranks_format.build (drop o ss))) i → n ≤ i
ones_before s o ss i n e h = omega (arith, h, ones_le (ranks_bits (ranks_format.build (drop o ss))) i)
