-- How pushes in order store rows: as values, or at which distance.
use Rattle.std.proofs.Common.{◌≡◌, ℕ, zero, suc, ◌+◌, ◌-◌, ◌<◌, ◌≤◌, Bool, true, false, ◌&&◌, List, [], ◌∷◌, ◌++◌, length, take, drop, append-nil, append_assoc, refl, sym, ◌∙◌, ap, arith, inl, inr}
use Rattle.std.specs.Prelude.{slice_get, Some, None, Option, cond, map, option_map, ◌^◌}
use Rattle.std.specs.Int.{w8}
use Rattle.std.proofs.lemmas.Bool.{and_parts, and_from}
use Rattle.std.proofs.lemmas.List.{nil_from_length, length-append, length-map, map-append, take-map, drop-map}
use Rattle.columnar_base.specs.Row.{Row, unit, number, number_of, none, some, ok, err, row_eq}
use Rattle.columnar_base.specs.RowLaws.{row_eq-is}
use Rattle.columnar_base.specs.Format.{Format, Content, slice, both, part, plain, IsSame, IsExact, all_alike}
use Rattle.columnar_base.specs.AlikeLaws.{alike_all, row_eq_exact}
use Rattle.columnar_base.specs.Numbers.{unsigned_row}
use Rattle.columnar_base.specs.Change.{Took, Copied}
use Rattle.columnar_base.specs.ChangeLaws.{slice_get-drop, take-suc_get}
use Rattle.columnar_sums.specs.RankColumns.{ranks_bits}
use Rattle.columnar_sums.specs.Options.{inner_of, bare_option, option_alike}
use Rattle.columnar_sums.specs.Results.{left_of, right_of, ok_part, err_part, bare_result, result_alike, results_format}
use Rattle.columnar_lookback.specs.Recall.{latest, recall}
use Rattle.columnar_lookback.specs.RecallLaws.{Each, length-recall}
use Rattle.columnar_lookback.specs.RepeatLaws.{option_is}
use Rattle.columnar_lookback.specs.Lookbacks.{lookbacks_code, lookbacks_format, nearest, back_of, kept_back, kept_rows, with_value, nearest_each, values_back, IsPlain}
use Rattle.columnar_base.specs.Elements.{bytes_format}
use Rattle.columnar_lookback.specs.LookbackLaws.{IsResult, woven_results, byte_row}

-- the values, the last one first, after rows of which those stored without a distance are values
abbrev pub values_by : List Row → List (Option ℕ) → List Row → List Row
values_by vs [] rs = vs
values_by vs (k ∷ ks) [] = vs
values_by vs (k ∷ ks) (r ∷ rs) = values_by (with_value k r vs) ks rs

pub values_by-append : (vs : List Row) (ks js : List (Option ℕ)) (rs ss : List Row) → length ks ≡ length rs → values_by vs (ks ++ js) (rs ++ ss) ≡ values_by (values_by vs ks rs) js ss
values_by-append vs [] js [] ss e = refl
values_by-append vs [] js (r ∷ rs) ss e = absurd (omega (arith, e))
values_by-append vs (k ∷ ks) js [] ss e = absurd (omega (arith, e))
values_by-append vs (k ∷ ks) js (r ∷ rs) ss e = values_by-append (with_value k r vs) ks js rs ss (omega (arith, e))

pub length-nearest_each : (same : Row → Row → Bool) (n : ℕ) (vs rs : List Row) → length (nearest_each same n vs rs) ≡ length rs
length-nearest_each same n vs [] = refl
length-nearest_each same n vs (r ∷ rs) = ap suc (length-nearest_each same n (with_value (nearest same n vs r) r vs) rs)

pub nearest_each-append : (same : Row → Row → Bool) (n : ℕ) (vs rs ss : List Row) → nearest_each same n vs (rs ++ ss) ≡ nearest_each same n vs rs ++ nearest_each same n (values_by vs (nearest_each same n vs rs) rs) ss
nearest_each-append same n vs [] ss = refl
nearest_each-append same n vs (r ∷ rs) ss = ap (λ ks. nearest same n vs r ∷ ks) (nearest_each-append same n (with_value (nearest same n vs r) r vs) rs ss)

-- an equivalence does not distinguish rows that are kin
tells : (same : Row → Row → Bool) → IsSame same → (v w r : Row) → same v w ≡ true → (x y : Bool) → same v r ≡ x → same w r ≡ y → x ≡ y
tells same e v w r h true true a b = refl
tells same e v w r h false false a b = refl
tells same e v w r h true false a b = sym (e.transitive w v r (e.symmetric v w h) a) ∙ b
tells same e v w r h false true a b = sym a ∙ e.transitive v w r h b

pub nearest_alike : (same : Row → Row → Bool) → IsSame same → (n : ℕ) (vs ws : List Row) (r : Row) → all_alike same vs ws ≡ true → nearest same n vs r ≡ nearest same n ws r
nearest_alike same e zero vs ws r h = refl
nearest_alike same e (suc n) [] [] r h = refl
nearest_alike same e (suc n) [] (w ∷ ws) r h = cc
nearest_alike same e (suc n) (v ∷ vs) [] r h = cc
nearest_alike same e (suc n) (v ∷ vs) (w ∷ ws) r h =
    let p = and_parts (same v w) (all_alike same vs ws) h in
    let a = tells same e v w r p.0 (same v r) (same w r) refl refl in
    let b = nearest_alike same e n vs ws r p.1 in
    rw (a, b) refl

with_value_alike : (same : Row → Row → Bool) (k : Option ℕ) (r s : Row) (vs ws : List Row) → same r s ≡ true → all_alike same vs ws ≡ true → all_alike same (with_value k r vs) (with_value k s ws) ≡ true
with_value_alike same None r s vs ws h g = and_from _ _ h g
with_value_alike same (Some m) r s vs ws h g = g

pub values_by_alike : (same : Row → Row → Bool) (ks : List (Option ℕ)) (vs ws rs ss : List Row) → all_alike same vs ws ≡ true → all_alike same rs ss ≡ true → all_alike same (values_by vs ks rs) (values_by ws ks ss) ≡ true
values_by_alike same [] vs ws rs ss h g = h
values_by_alike same (k ∷ ks) vs ws [] [] h g = h
values_by_alike same (k ∷ ks) vs ws [] (s ∷ ss) h g = cc
values_by_alike same (k ∷ ks) vs ws (r ∷ rs) [] h g = cc
values_by_alike same (k ∷ ks) vs ws (r ∷ rs) (s ∷ ss) h g =
    let p = and_parts (same r s) (all_alike same rs ss) g in
    values_by_alike same ks (with_value k r vs) (with_value k s ws) rs ss (with_value_alike same k r s vs ws p.0 h) p.1

-- the values of inner rows follow from how they are stored and from the rows that they read as
pub latest_kept : (vs us : List Row) → Each IsResult us → latest lookbacks_code vs us ≡ values_by vs (map kept_back us) (recall lookbacks_code vs us)
latest_kept vs [] a = refl
latest_kept vs (u ∷ us) a = elim a.0 [
  | inl p ↦ rw p.1 (latest_kept (p.0 ∷ vs) us a.1)
  | inr p ↦ rw p.1 (latest_kept vs us a.1)
]

-- a row without an error has no distance
no_back : (o : Row) → bare_option o ≡ none → back_of o ≡ None
no_back (some r) h = cc
no_back o h = refl

kept_ok : (a b : Row → Row → Bool) (f r : Row) → result_alike a b f (ok r) ≡ true → kept_back f ≡ None
kept_ok a b f r h =
    let q = and_parts (row_eq (bare_result f) (ok unit)) (option_alike a (ok_part f) (some r) && option_alike b (err_part f) none) h in
    let p = and_parts (option_alike a (ok_part f) (some r)) (option_alike b (err_part f) none) q.1 in
    let s = and_parts (row_eq (bare_option (err_part f)) none) (b (inner_of (err_part f)) unit) p.1 in
    no_back (err_part f) (row_eq-is (bare_option (err_part f)) none s.0)

kept_each_ok : (a b : Row → Row → Bool) (fs : List Row) (r : Row) → all_alike (result_alike a b) fs (ok r ∷ []) ≡ true → map kept_back fs ≡ None ∷ []
kept_each_ok a b [] r h = cc
kept_each_ok a b (f ∷ g ∷ fs) r h = let q = and_parts (result_alike a b f (ok r)) (all_alike (result_alike a b) (g ∷ fs) []) h in cc
kept_each_ok a b (f ∷ []) r h =
    let q = and_parts (result_alike a b f (ok r)) true h in
    let e = kept_ok a b f r q.0 in
    rw e refl

kept_err : (a b : Row → Row → Bool) → IsExact b → (f w : Row) → result_alike a b f (err w) ≡ true → kept_back f ≡ Some (number_of w)
kept_err a b x f w h =
    let q = and_parts (row_eq (bare_result f) (err unit)) (option_alike a (ok_part f) none && option_alike b (err_part f) (some w)) h in
    let p = and_parts (option_alike a (ok_part f) none) (option_alike b (err_part f) (some w)) q.1 in
    ap back_of (option_is b x (err_part f) w p.1)

kept_each_err : (a b : Row → Row → Bool) → IsExact b → (fs : List Row) (w : Row) → all_alike (result_alike a b) fs (err w ∷ []) ≡ true → map kept_back fs ≡ Some (number_of w) ∷ []
kept_each_err a b x [] w h = cc
kept_each_err a b x (f ∷ g ∷ fs) w h = let q = and_parts (result_alike a b f (err w)) (all_alike (result_alike a b) (g ∷ fs) []) h in cc
kept_each_err a b x (f ∷ []) w h =
    let q = and_parts (result_alike a b f (err w)) true h in
    let e = kept_err a b x f w q.0 in
    rw e refl

-- what a pushed value adds, and a pushed distance
kept_value : (t : Format) {x y : Content} (r : Row) → Took (results_format t bytes_format) x y (ok r ∷ []) → kept_rows t y ≡ kept_rows t x ++ None ∷ []
kept_value t {x} {y} r g =
    ap (map kept_back) g.grew.rows ∙ (map-append kept_back ((results_format t bytes_format).rows x) g.fresh ∙ ap (λ ks. kept_rows t x ++ ks) (kept_each_ok t.alike bytes_format.alike g.fresh r g.alike))

kept_byte : (t : Format) {x y : Content} (m : ℕ) → m < 2 ^ 8 → Took (results_format t bytes_format) x y (err (unsigned_row w8 m) ∷ []) → kept_rows t y ≡ kept_rows t x ++ Some m ∷ []
kept_byte t {x} {y} m l g =
    ap (map kept_back) g.grew.rows ∙ (map-append kept_back ((results_format t bytes_format).rows x) g.fresh ∙ ap (λ ks. kept_rows t x ++ ks) (kept_each_err t.alike bytes_format.alike row_eq_exact g.fresh (unsigned_row w8 m) g.alike ∙ ap (λ q. Some (number_of q) ∷ []) (byte_row m l)))

-- a row that is kin to none of the last values, and one that is kin to one
pub pushed_value : (t : Format) (n : ℕ) {x y : Content} (r : Row) → nearest t.kin n (values_back t x) r ≡ None → Took (results_format t bytes_format) x y (ok r ∷ []) → kept_rows t y ≡ kept_rows t x ++ nearest t.kin n (values_back t x) r ∷ []
pushed_value t n {x} {y} r e g = kept_value t r g ∙ ap (λ q. kept_rows t x ++ q ∷ []) (sym e)

pub pushed_byte : (t : Format) (n : ℕ) {x y : Content} (r : Row) (m : ℕ) → m < 2 ^ 8 → nearest t.kin n (values_back t x) r ≡ Some m → Took (results_format t bytes_format) x y (err (unsigned_row w8 m) ∷ []) → kept_rows t y ≡ kept_rows t x ++ nearest t.kin n (values_back t x) r ∷ []
pushed_byte t n {x} {y} r m l e g = kept_byte t m l g ∙ ap (λ q. kept_rows t x ++ q ∷ []) (sym e)

-- each row of results is Ok or Err
results_each : (a b : Format) (c : Content) → Each IsResult ((results_format a b).rows c)
results_each a b (both x y) = woven_results (ranks_bits x) (a.rows (left_of y)) (b.rows (right_of y))
results_each a b (slice bs) = tt
results_each a b (part l u x) = tt
results_each a b (plain rs) = tt

-- one more row after those pushed in order
kept_more : (t : Format) (n : ℕ) {x y z : Content} (rs : List Row) (r : Row) → IsSame t.kin → Took (lookbacks_format t bytes_format) x y rs → Took (lookbacks_format t bytes_format) y z (r ∷ [])
    → kept_rows t y ≡ kept_rows t x ++ nearest_each t.kin n (values_back t x) rs
    → kept_rows t z ≡ kept_rows t y ++ nearest t.kin n (values_back t y) r ∷ []
    → kept_rows t z ≡ kept_rows t x ++ nearest_each t.kin n (values_back t x) (rs ++ r ∷ [])
kept_more t n {x} {y} {z} rs r e g q h k =
    let us : List Row = (results_format t bytes_format).rows x in
    let ws : List Row = (results_format t bytes_format).rows y in
    let vs : List Row = values_back t x in
    let ns : List (Option ℕ) = nearest_each t.kin n vs rs in
    let l : length (map kept_back us) ≡ length (recall lookbacks_code [] us) = length-map us kept_back ∙ sym (length-recall lookbacks_code [] us) in
    let a : values_back t y ≡ values_by vs ns g.fresh =
    latest_kept [] ws (results_each t bytes_format y) ∙ (ap (λ ks. values_by [] ks (recall lookbacks_code [] ws)) h ∙ (ap (λ qs. values_by [] (map kept_back us ++ ns) qs) g.grew.rows ∙ (values_by-append [] (map kept_back us) ns (recall lookbacks_code [] us) g.fresh l ∙ ap (λ qs. values_by qs ns g.fresh) (sym (latest_kept [] us (results_each t bytes_format x)))))) in
    let b = values_by_alike t.kin ns vs vs g.fresh rs (alike_all t.kin e vs) g.alike in
    let c : nearest t.kin n (values_back t y) r ≡ nearest t.kin n (values_by vs ns rs) r = ap (λ qs. nearest t.kin n qs r) a ∙ nearest_alike t.kin e n (values_by vs ns g.fresh) (values_by vs ns rs) r b in
    k ∙ (ap (λ ks. ks ++ nearest t.kin n (values_back t y) r ∷ []) h ∙ (append_assoc (map kept_back us) ns (nearest t.kin n (values_back t y) r ∷ []) ∙ ap (λ ks. map kept_back us ++ ks) (ap (λ q. ns ++ q ∷ []) c ∙ sym (nearest_each-append t.kin n vs rs (r ∷ [])))))

-- the same for a range, row by row
pub kept_step : (t : Format) (n : ℕ) {x y z : Content} (rs : List Row) (start i : ℕ) (r : Row) → IsSame t.kin → start ≤ i → slice_get rs i ≡ Some r → Took (lookbacks_format t bytes_format) x y (take (i - start) (drop start rs)) → Took (lookbacks_format t bytes_format) y z (r ∷ [])
    → kept_rows t y ≡ kept_rows t x ++ nearest_each t.kin n (values_back t x) (take (i - start) (drop start rs))
    → kept_rows t z ≡ kept_rows t y ++ nearest t.kin n (values_back t y) r ∷ []
    → kept_rows t z ≡ kept_rows t x ++ nearest_each t.kin n (values_back t x) (take (i + 1 - start) (drop start rs))
kept_step t n rs start i r s l e g w h k =
    let d = slice_get-drop start rs i (i - start) r (omega arith) e in
    let p = take-suc_get (i - start) (drop start rs) r d in
    let q : suc (i - start) ≡ i + 1 - start = omega arith in
    rw (← p, q) at (kept_more t n (take (i - start) (drop start rs)) r s g w h k)

-- no row yet
pub kept_none : (t : Format) (n : ℕ) (x : Content) (rs : List Row) (start : ℕ) → kept_rows t x ≡ kept_rows t x ++ nearest_each t.kin n (values_back t x) (take (start - start) (drop start rs))
kept_none t n x rs start = let e : start - start ≡ 0 = omega arith in rw e (sym (append-nil (kept_rows t x)))

-- a range from row 0 that is copied into a column without rows is stored unchanged
pub kept_front : (t u : Format) {x y : Content} (start n : ℕ) (us : List Row) → recall lookbacks_code [] ((results_format t bytes_format).rows x) ≡ [] → start ≡ 0 → Copied (results_format t bytes_format) x y start (take n (drop start us)) → kept_rows t y ≡ take n (drop start (map kept_back us))
kept_front t u {x} {y} start n us e z g =
    let m : length ((results_format t bytes_format).rows x) ≡ 0 = sym (length-recall lookbacks_code [] ((results_format t bytes_format).rows x)) ∙ ap length e in
    ap (map kept_back) (g.front (nil_from_length ((results_format t bytes_format).rows x) m) z) ∙ (sym (take-map kept_back n (drop start us)) ∙ ap (take n) (sym (drop-map kept_back start us)))
