-- A column of values and distances is lawful, and its rows are the values that these refer to.
use Rattle.std.proofs.Common.{◌≡◌, ℕ, zero, suc, ◌+◌, ◌-◌, ◌<◌, ◌≤◌, Bool, true, false, ◌&&◌, List, [], ◌∷◌, ◌++◌, length, take, drop, append-nil, refl, sym, ◌∙◌, ap, arith, ◌⊎◌, inl, inr}
use Rattle.std.specs.Prelude.{slice_get, Some, None, Option, cond, map, min, option_map, ◌^◌}
use Rattle.std.proofs.lemmas.Bool.{and_parts, and_from, lt-ltb, cases_lt}
use Rattle.std.proofs.lemmas.Option.{slice_get_within}
use Rattle.std.proofs.lemmas.List.{length-take-le, length-append, length-map}
use Rattle.columnar_base.specs.Row.{Row, unit, number, number_of, truth, none, some, ok, err, row_eq}
use Rattle.columnar_base.specs.Format.{Format, Content, both, IsSound, IsLawful, IsStorable, all_alike, Excess}
use Rattle.columnar_base.specs.AlikeLaws.{row_eq_exact, alike_length}
use Rattle.columnar_base.specs.Elements.{past_count, elements_format}
use Rattle.columnar_base.specs.Change.{Took, Copied, Refused}
use Rattle.columnar_base.specs.ChangeLaws.{slice_get_some}
use Rattle.columnar_base.specs.Numbers.{unsigned_row}
use Rattle.std.specs.Int.{w8}
use Rattle.std.proofs.Math.Nat.{mod-eq_of_lt}
use Rattle.columnar_base.specs.declared.fault.GrowError.{GrowError}
use Rattle.columnar_sums.specs.Counting.{ones}
use Rattle.columnar_sums.specs.RankColumns.{ranks_bits}
use Rattle.columnar_sums.specs.CountLaws.{ones_true, ones_false}
use Rattle.columnar_sums.specs.Options.{value_of, inner_of, bare_option, option_alike}
use Rattle.columnar_sums.specs.Results.{turned, zeros, weave_results, ok_part, err_part, bare_result, oks, errs, result_alike, results_refuses, results_format}
use Rattle.columnar_sums.specs.ResultLaws.{results_parts, results_oks, results_errs, results_clear, results_clear_of, results_ok_value, results_err_value, results_ok, results_err, results_ok_top, results_err_top, results_lawful, results_storable}
use Rattle.columnar_sums.specs.WeaveLaws.{ones_nil, ones_taken}
use Rattle.columnar_sums.specs.WeaveBothLaws.{zeros_taken, length-weave_results, weave_results-take, oks-append, errs-append}
use Rattle.columnar_lookback.specs.Recall.{recent, latest, recall, reaches}
use Rattle.columnar_lookback.specs.RecallLaws.{IsCode, IsStoring, ReadsAlike, Each, each_taken, each_dropped, range_recalled, recall_parts, recall_lawful, recall_storable, recall_took, recall_took_as, recall_refused, recall_refused_as, recall_front, recall_at, reaches_at, reaches-take, length-recall, recall-take}
use Rattle.columnar_lookback.specs.LatestLaws.{onto, length-onto, recent_onto, taken_at}
use Rattle.columnar_lookback.specs.RepeatLaws.{option_values, option_is, ones_set, ones_clear}
use Rattle.columnar_lookback.specs.Lookbacks.{distance, lookbacks_code, lookbacks_format, nearest, IsPlain}

-- the format

lookbacks_is_code : IsCode lookbacks_code
lookbacks_is_code = record { form = λ r. ok r; formed = λ r. inl refl }

pub lookbacks_alike : (t d : Format) → IsLawful t → IsPlain d → ReadsAlike lookbacks_code t.kin (result_alike t.alike d.alike)
lookbacks_alike t d l p = record {
  back = λ u v h.
      let q = and_parts (row_eq (bare_result u) (bare_result v)) (option_alike t.alike (ok_part u) (ok_part v) && option_alike d.alike (err_part u) (err_part v)) h in
      let r = and_parts (option_alike t.alike (ok_part u) (ok_part v)) (option_alike d.alike (err_part u) (err_part v)) q.1 in
      let s = and_parts (row_eq (bare_option (err_part u)) (bare_option (err_part v))) (d.alike (inner_of (err_part u)) (inner_of (err_part v))) r.1 in
      ap number_of (p.exact.exact (inner_of (err_part u)) (inner_of (err_part v)) s.1);
  value = λ u v h.
      let q = and_parts (row_eq (bare_result u) (bare_result v)) (option_alike t.alike (ok_part u) (ok_part v) && option_alike d.alike (err_part u) (err_part v)) h in
      let r = and_parts (option_alike t.alike (ok_part u) (ok_part v)) (option_alike d.alike (err_part u) (err_part v)) q.1 in
      option_values t l (ok_part u) (ok_part v) r.0;
}

pub lookbacks_lawful : (t d : Format) → IsLawful t → IsLawful d → IsLawful (lookbacks_format t d)
lookbacks_lawful t d l m = recall_lawful lookbacks_code t.kin (results_format t d) lookbacks_is_code l.kindred (results_lawful t d l m)

pub lookbacks_storable : (t d : Format) → IsStorable t → IsStorable d → IsStorable (lookbacks_format t d)
lookbacks_storable t d l m = recall_storable lookbacks_code t.kin (results_format t d) (results_storable t d l m)

pub same_lookbacks : {t t' : Format} (d : Format) → t ≡ t' → lookbacks_format t d ≡ lookbacks_format t' d
same_lookbacks {t} {t'} d p = rw p refl

-- elements in one slice
pub elements_plain : (size align : ℕ) (row_of : List ℕ → Row) → IsPlain (elements_format size align row_of)
elements_plain size align row_of = record {
  exact = row_eq_exact;
  counts = λ e c n rs ss h. ap (λ (k : ℕ). past_count e (n + k)) h;
  still = refl;
}

-- limits treat every distance as 0

-- the row is a value or a distance
abbrev pub IsResult : Row → Type 0
IsResult u = ((r : Row) × (u ≡ ok r)) ⊎ ((w : Row) × (u ≡ err w))

abbrev pub plainly : Row → Row
plainly (err w) = err (number 0)
plainly u = u

plain_oks : (us : List Row) → Each IsResult us → oks (map plainly us) ≡ oks us
plain_oks [] a = refl
plain_oks (u ∷ us) a =
    let h = plain_oks us a.1 in
    elim a.0 [ inl p ↦ rw (p.1, h) refl | inr p ↦ rw (p.1, h) refl ]

plain_errs : (us : List Row) → Each IsResult us → length (errs (map plainly us)) ≡ length (errs us)
plain_errs [] a = refl
plain_errs (u ∷ us) a =
    let h = plain_errs us a.1 in
    elim a.0 [ inl p ↦ rw (p.1, h) refl | inr p ↦ rw p.1 (ap suc h) ]

pub plain_limits : (t d : Format) → IsPlain d → (x y z : Content) (n : ℕ) (e : Excess) (us ws : List Row) → Each IsResult us → results_refuses t d e (both x (both y z)) n (us ++ ws) ≡ results_refuses t d e (both x (both y z)) n (map plainly us ++ ws)
plain_limits t d p x y z n e us ws a =
    let i : length (map plainly us ++ ws) ≡ length (us ++ ws) = length-append (map plainly us) ws ∙ (ap (λ (k : ℕ). k + length ws) (length-map us plainly) ∙ sym (length-append us ws)) in
    let j : oks (map plainly us ++ ws) ≡ oks (us ++ ws) = oks-append (map plainly us) ws ∙ (ap (λ (vs : List Row). vs ++ oks ws) (plain_oks us a) ∙ sym (oks-append us ws)) in
    let q : length (errs (map plainly us ++ ws)) ≡ length (errs (us ++ ws)) = ap length (errs-append (map plainly us) ws) ∙ (length-append (errs (map plainly us)) (errs ws) ∙ (ap (λ (k : ℕ). k + length (errs ws)) (plain_errs us a) ∙ (sym (length-append (errs us) (errs ws)) ∙ sym (ap length (errs-append us ws))))) in
    let r = p.counts e z (zeros (ranks_bits x) n) (errs (us ++ ws)) (errs (map plainly us ++ ws)) (sym q) in
    rw (i, j, r) refl

-- lists

pub woven_results : (b : List Bool) (vs ws : List Row) → Each IsResult (weave_results b vs ws)
woven_results [] vs ws = tt
woven_results (true ∷ b) (v ∷ vs) ws = (inl (v, refl), woven_results b vs ws)
woven_results (true ∷ b) [] ws = (inl (unit, refl), woven_results b [] ws)
woven_results (false ∷ b) vs (w ∷ ws) = (inr (w, refl), woven_results b vs ws)
woven_results (false ∷ b) vs [] = (inr (unit, refl), woven_results b vs [])

storing_recalled : (vs us : List Row) → Each IsResult us → IsStoring lookbacks_code (map plainly us) (recall lookbacks_code vs us)
storing_recalled vs [] a = tt
storing_recalled vs (u ∷ us) a =
    let h = storing_recalled (value_of (ok_part u) ++ vs) us a.1 in
    elim a.0 [ inl p ↦ (inl (rw p.1 refl), h) | inr p ↦ (inr (inl (rw p.1 refl)), h) ]

storing_range : (b : List Bool) (vs ws : List Row) (n start : ℕ) → IsStoring lookbacks_code (map plainly (take n (drop start (weave_results b vs ws)))) (take n (drop start (recall lookbacks_code [] (weave_results b vs ws))))
storing_range b vs ws n start =
    let all = weave_results b vs ws in
    rw (range_recalled lookbacks_code n start all) at (storing_recalled (latest lookbacks_code [] (take start all)) (take n (drop start all)) (each_taken IsResult n (drop start all) (each_dropped IsResult start all (woven_results b vs ws))))

pub latest_woven : (b : List Bool) (vs ws us : List Row) → ones b (length b) ≡ length vs → zeros b (length b) ≡ length ws → latest lookbacks_code us (weave_results b vs ws) ≡ onto vs us
latest_woven [] [] ws us e f = refl
latest_woven [] (v ∷ vs) ws us e f = absurd (omega (arith, ones_nil 0))
latest_woven (true ∷ b) [] ws us e f = absurd (omega (arith, e, ones_true b (length b)))
latest_woven (true ∷ b) (v ∷ vs) ws us e f = latest_woven b vs ws (v ∷ us) (omega (arith, e, ones_true b (length b))) (omega (arith, f, ones_false (turned b) (length b)))
latest_woven (false ∷ b) vs [] us e f = absurd (omega (arith, f, ones_true (turned b) (length b)))
latest_woven (false ∷ b) vs (w ∷ ws) us e f = latest_woven b vs ws us (omega (arith, e, ones_false b (length b))) (omega (arith, f, ones_true (turned b) (length b)))

-- the values of the set bits among the first n rows
pub latest_first : (b : List Bool) (vs ws : List Row) (n : ℕ) → ones b n ≤ length vs → zeros b n ≤ length ws → latest lookbacks_code [] (take n (weave_results b vs ws)) ≡ onto (take (ones b n) vs) []
latest_first b vs ws n l k =
    let e = weave_results-take n b vs ws in
    let m = length-take-le (ones b n) vs l in
    let o = length-take-le (zeros b n) ws k in
    rw (← e) (latest_woven (take n b) (take (ones b n) vs) (take (zeros b n) ws) [] (ones_taken n b ∙ sym m) (zeros_taken n b ∙ sym o))

-- the parts of well-formed lookbacks
pub lookbacks_results : (t d : Format) {c : Content} → IsSound (lookbacks_format t d) c → IsSound (results_format t d) c
lookbacks_results t d s = (recall_parts lookbacks_code t.kin (results_format t d) s).inner

pub lookbacks_values : (t d : Format) {x y z : Content} → IsSound (lookbacks_format t d) (both x (both y z)) → IsSound t y
lookbacks_values t d s = (results_parts t d (lookbacks_results t d s)).oks

pub lookbacks_distances : (t d : Format) {x y z : Content} → IsSound (lookbacks_format t d) (both x (both y z)) → IsSound d z
lookbacks_distances t d s = (results_parts t d (lookbacks_results t d s)).errs

pub length-lookbacks : (t d : Format) (x y z : Content) → length (recall lookbacks_code [] (weave_results (ranks_bits x) (t.rows y) (d.rows z))) ≡ length (ranks_bits x)
length-lookbacks t d x y z = length-recall lookbacks_code [] (weave_results (ranks_bits x) (t.rows y) (d.rows z)) ∙ length-weave_results (ranks_bits x) (t.rows y) (d.rows z)

-- reads

-- the values up to row i with inner row u: u reaches one of them, and it is the row
record UpTo (t d : Format) (x y z : Content) (i : ℕ) (u : Row) : Type 0 where
  all : ones (ranks_bits x) (i + 1) ≤ length (t.rows y)
  reach : distance u < ones (ranks_bits x) (i + 1)
  row : slice_get (recall lookbacks_code [] (weave_results (ranks_bits x) (t.rows y) (d.rows z))) i ≡ Some (recent (onto (take (ones (ranks_bits x) (i + 1)) (t.rows y)) []) (distance u))

up_to : (t d : Format) {x y z : Content} (i : ℕ) (u : Row) → IsSound (lookbacks_format t d) (both x (both y z)) → slice_get (weave_results (ranks_bits x) (t.rows y) (d.rows z)) i ≡ Some u → UpTo t d x y z i u
up_to t d {x} {y} {z} i u s h =
    let b = ranks_bits x in
    let vs = t.rows y in
    let ws = d.rows z in
    let all = weave_results b vs ws in
    let p = recall_parts lookbacks_code t.kin (results_format t d) s in
    let l = slice_get_within all i u h in
    let j : i + 1 ≡ suc i = omega arith in
    let c = results_ok_top t d x y z (suc i) p.inner (omega (arith, l)) in
    let e = results_err_top t d x y z (suc i) p.inner (omega (arith, l)) in
    let f = latest_first b vs ws (suc i) c e in
    let r = reaches_at lookbacks_code [] all i u p.reached h in
    let g : distance u < length (onto (take (ones b (suc i)) vs) []) = rw f at r in
    let n = length-onto (take (ones b (suc i)) vs) [] in
    let m = length-take-le (ones b (suc i)) vs c in
    record {
      all = rw j c;
      reach = rw j (omega (arith, g, n, m));
      row = rw j (recall_at lookbacks_code [] all i u h ∙ ap Some (ap (λ (us : List Row). recent us (distance u)) f));
    }

pub lookbacks_reach : (t d : Format) {x y z : Content} (i : ℕ) (u : Row) → IsSound (lookbacks_format t d) (both x (both y z)) → slice_get (weave_results (ranks_bits x) (t.rows y) (d.rows z)) i ≡ Some u → distance u < ones (ranks_bits x) (i + 1)
lookbacks_reach t d i u s h = (up_to t d i u s h).reach

pub lookbacks_within : (t d : Format) {x y z : Content} (i k : ℕ) (u : Row) → IsSound (lookbacks_format t d) (both x (both y z)) → slice_get (weave_results (ranks_bits x) (t.rows y) (d.rows z)) i ≡ Some u → k + suc (distance u) ≡ ones (ranks_bits x) (i + 1) → k < length (t.rows y)
lookbacks_within t d i k u s h e = let a = (up_to t d i u s h).all in omega (arith, a, e)

-- Row i is value k if k values precede the one that it refers to.
pub lookbacks_row : (t d : Format) {x y z : Content} (i k : ℕ) (u v : Row) → IsSound (lookbacks_format t d) (both x (both y z)) → slice_get (weave_results (ranks_bits x) (t.rows y) (d.rows z)) i ≡ Some u → k + suc (distance u) ≡ ones (ranks_bits x) (i + 1) → slice_get (t.rows y) k ≡ Some v → slice_get (recall lookbacks_code [] (weave_results (ranks_bits x) (t.rows y) (d.rows z))) i ≡ Some v
lookbacks_row t d {x} {y} {z} i k u v s h e g =
    let a = up_to t d i u s h in
    let n = ones (ranks_bits x) (i + 1) in
    let f = length-take-le n (t.rows y) a.all in
    let q = recent_onto (take n (t.rows y)) [] k (distance u) v (taken_at n k (t.rows y) v (omega (arith, e)) g) (omega (arith, e, f)) in
    a.row ∙ ap Some q

-- the value that is j before the last
pub value_before : (t d : Format) {x y z : Content} (i j : ℕ) (v : Row) → IsSound (lookbacks_format t d) (both x (both y z)) → slice_get (t.rows y) i ≡ Some v → i + suc j ≡ length (t.rows y) → recent (latest lookbacks_code [] (weave_results (ranks_bits x) (t.rows y) (d.rows z))) j ≡ v
value_before t d {x} {y} {z} i j v s h e =
    let p = results_parts t d (lookbacks_results t d s) in
    let f = latest_woven (ranks_bits x) (t.rows y) (d.rows z) [] p.ok_level p.err_level in
    ap (λ (us : List Row). recent us j) f ∙ recent_onto (t.rows y) [] i j v h e

pub values_count : (t d : Format) {x y z : Content} → IsSound (lookbacks_format t d) (both x (both y z)) → length (latest lookbacks_code [] (weave_results (ranks_bits x) (t.rows y) (d.rows z))) ≡ length (t.rows y)
values_count t d {x} {y} {z} s =
    let p = results_parts t d (lookbacks_results t d s) in
    let f = latest_woven (ranks_bits x) (t.rows y) (d.rows z) [] p.ok_level p.err_level in
    ap length f ∙ (length-onto (t.rows y) [] ∙ omega arith)

-- the nearest value

-- none of the last m values is kin to r
abbrev pub NoneNearer : (Row → Row → Bool) → List Row → Row → ℕ → Type 0
NoneNearer same vs r m = (j : ℕ) → j < m → same (recent vs j) r ≡ false

pub none_nearer : (same : Row → Row → Bool) (vs : List Row) (r : Row) → NoneNearer same vs r 0
none_nearer same vs r = λ j l. absurd (omega arith)

pub none_more : (same : Row → Row → Bool) (vs : List Row) (r : Row) (m : ℕ) → NoneNearer same vs r m → same (recent vs m) r ≡ false → NoneNearer same vs r (m + 1)
none_more same vs r m f h = λ j l. elim (cases_lt j m) [ inl k ↦ f j k | inr k ↦ (let e : j ≡ m = omega (arith, k, l) in rw e h) ]

pub nearest_is : (same : Row → Row → Bool) (n : ℕ) (vs : List Row) (r : Row) (m : ℕ) → NoneNearer same vs r m → m < n → m < length vs → same (recent vs m) r ≡ true → nearest same n vs r ≡ Some m
nearest_is same zero vs r m f l k h = absurd (omega arith)
nearest_is same (suc n) [] r m f l k h = absurd (omega arith)
nearest_is same (suc n) (v ∷ vs) r zero f l k h = rw h refl
nearest_is same (suc n) (v ∷ vs) r (suc m) f l k h =
    let e = f 0 (omega arith) in
    let q = nearest_is same n vs r m (λ j i. f (suc j) (omega arith)) (omega arith) (omega arith) h in
    rw (e, q) refl

pub nearest_not : (same : Row → Row → Bool) (n : ℕ) (vs : List Row) (r : Row) (m : ℕ) → NoneNearer same vs r m → min n (length vs) ≤ m → nearest same n vs r ≡ None
nearest_not same zero vs r m f l = refl
nearest_not same (suc n) [] r m f l = refl
nearest_not same (suc n) (v ∷ vs) r zero f l = absurd (omega arith)
nearest_not same (suc n) (v ∷ vs) r (suc m) f l =
    let e = f 0 (omega arith) in
    let h = nearest_not same n vs r m (λ j i. f (suc j) (omega arith)) (omega arith) in
    rw (e, h) refl

below_step : (n : ℕ) (z : Bool) (q : Option ℕ) (m : ℕ) → ((k : ℕ) → q ≡ Some k → k < n) → cond z (Some 0) (option_map suc q) ≡ Some m → m < suc n
below_step n true q zero f h = omega arith
below_step n true q (suc m) f h = cc
below_step n false None m f h = cc
below_step n false (Some k) zero f h = cc
below_step n false (Some k) (suc m) f h = let i : k ≡ m = cc in omega (arith, f k refl, i)

pub nearest_below : (same : Row → Row → Bool) (n : ℕ) (vs : List Row) (r : Row) (m : ℕ) → nearest same n vs r ≡ Some m → m < n
nearest_below same zero vs r m h = cc
nearest_below same (suc n) [] r m h = cc
nearest_below same (suc n) (v ∷ vs) r m h = below_step n (same v r) (nearest same n vs r) m (nearest_below same n vs r) h

nearest_step : (same : Row → Row → Bool) (vs : List Row) (v r : Row) (m : ℕ) (z : Bool) (q : Option ℕ) → same v r ≡ z → ((k : ℕ) → q ≡ Some k → (k < length vs) × (same (recent vs k) r ≡ true)) → cond z (Some 0) (option_map suc q) ≡ Some m → (m < length (v ∷ vs)) × (same (recent (v ∷ vs) m) r ≡ true)
nearest_step same vs v r zero true q e f h = (omega arith, e)
nearest_step same vs v r (suc m) true q e f h = cc
nearest_step same vs v r m false None e f h = cc
nearest_step same vs v r zero false (Some k) e f h = cc
nearest_step same vs v r (suc m) false (Some k) e f h =
    let i : k ≡ m = cc in
    let p = f k refl in
    (omega (arith, p.0, i), rw (← i) p.1)

pub nearest_some : (same : Row → Row → Bool) (n : ℕ) (vs : List Row) (r : Row) (m : ℕ) → nearest same n vs r ≡ Some m → (m < length vs) × (same (recent vs m) r ≡ true)
nearest_some same zero vs r m h = cc
nearest_some same (suc n) [] r m h = cc
nearest_some same (suc n) (v ∷ vs) r m h = nearest_step same vs v r m (same v r) (nearest same n vs r) refl (nearest_some same n vs r) h

-- changes

pub lookbacks_took_value : (t d : Format) {x y : Content} {r : Row} → IsLawful t → IsPlain d → IsSound (lookbacks_format t d) x → Took (results_format t d) x y (ok r ∷ []) → Took (lookbacks_format t d) x y (r ∷ [])
lookbacks_took_value t d {x} {y} {r} l p s g =
    let vs = latest lookbacks_code [] ((results_format t d).rows x) in
    recall_took lookbacks_code t.kin (results_format t d) (ok r ∷ []) (r ∷ []) l.kindred (lookbacks_alike t d l p) s g (inl refl, tt) (and_from _ _ (lt-ltb 0 (length (r ∷ vs)) (omega arith)) refl) (and_from _ _ (l.kindred.reflexive r) refl)

pub lookbacks_took_back : (t d : Format) {x y z c : Content} {r : Row} (n m : ℕ) → IsLawful t → IsPlain d → IsSound (lookbacks_format t d) (both x (both y z)) → nearest t.kin n (latest lookbacks_code [] (weave_results (ranks_bits x) (t.rows y) (d.rows z))) r ≡ Some m → Took (results_format t d) (both x (both y z)) c (err (number m) ∷ []) → Took (lookbacks_format t d) (both x (both y z)) c (r ∷ [])
lookbacks_took_back t d {x} {y} {z} {c} {r} n m l p s h g =
    let vs = latest lookbacks_code [] (weave_results (ranks_bits x) (t.rows y) (d.rows z)) in
    let q = nearest_some t.kin n vs r m h in
    recall_took_as lookbacks_code t.kin (results_format t d) (err (number m) ∷ []) (err (number 0) ∷ []) (r ∷ []) l.kindred (lookbacks_alike t d l p) s g (λ e ws k. sym (plain_limits t d p x y z (length (weave_results (ranks_bits x) (t.rows y) (d.rows z))) e (err (number m) ∷ []) ws (inr (number m, refl), tt)) ∙ k) (inr (inl refl), tt) (and_from _ _ (lt-ltb m (length vs) q.0) refl) (and_from _ _ q.1 refl)

-- the row of a byte
pub byte_row : (m : ℕ) → m < 2 ^ 8 → unsigned_row w8 m ≡ number m
byte_row m b = ap number (mod-eq_of_lt b)

pub lookbacks_took_byte : (t d : Format) {x y z c : Content} {r : Row} (n m : ℕ) → m < 2 ^ 8 → IsLawful t → IsPlain d → IsSound (lookbacks_format t d) (both x (both y z)) → nearest t.kin n (latest lookbacks_code [] (weave_results (ranks_bits x) (t.rows y) (d.rows z))) r ≡ Some m → Took (results_format t d) (both x (both y z)) c (err (unsigned_row w8 m) ∷ []) → Took (lookbacks_format t d) (both x (both y z)) c (r ∷ [])
lookbacks_took_byte t d n m b l p s h g = let e = byte_row m b in lookbacks_took_back t d n m l p s h (rw e at g)

pub lookbacks_refused_value : (t d : Format) {x y : Content} {r : Row} {error : GrowError} → IsSound (lookbacks_format t d) x → Refused (results_format t d) x y (ok r ∷ []) error → Refused (lookbacks_format t d) x y (r ∷ []) error
lookbacks_refused_value t d {x} {y} {r} s g = recall_refused lookbacks_code t.kin (results_format t d) (ok r ∷ []) (r ∷ []) s g (inl refl, tt)

pub lookbacks_refused_back : (t d : Format) {x y z c : Content} {r : Row} (m : ℕ) {error : GrowError} → IsPlain d → IsSound (lookbacks_format t d) (both x (both y z)) → Refused (results_format t d) (both x (both y z)) c (err (number m) ∷ []) error → Refused (lookbacks_format t d) (both x (both y z)) c (r ∷ []) error
lookbacks_refused_back t d {x} {y} {z} {c} {r} m p s g =
    recall_refused_as lookbacks_code t.kin (results_format t d) (err (number m) ∷ []) (err (number 0) ∷ []) (r ∷ []) s g (λ e k. sym (plain_limits t d p x y z (length (weave_results (ranks_bits x) (t.rows y) (d.rows z))) e (err (number m) ∷ []) [] (inr (number m, refl), tt)) ∙ k) (inr (inl refl), tt)

pub lookbacks_refused_byte : (t d : Format) {x y z c : Content} {r : Row} (m : ℕ) → m < 2 ^ 8 → {error : GrowError} → IsPlain d → IsSound (lookbacks_format t d) (both x (both y z)) → Refused (results_format t d) (both x (both y z)) c (err (unsigned_row w8 m) ∷ []) error → Refused (lookbacks_format t d) (both x (both y z)) c (r ∷ []) error
lookbacks_refused_byte t d m b p s g = let e = byte_row m b in lookbacks_refused_back t d m p s (rw e at g)

-- a range of a view from row 0
pub lookbacks_copied_front : (t d u e : Format) {x y z c : Content} (v w a : Content) (start n : ℕ) → IsLawful t → IsPlain d → IsSound (lookbacks_format t d) (both x (both y z)) → IsSound (lookbacks_format u e) (both v (both w a)) → recall lookbacks_code [] (weave_results (ranks_bits x) (t.rows y) (d.rows z)) ≡ [] → start ≡ 0 → Copied (results_format t d) (both x (both y z)) c start (take n (drop start (weave_results (ranks_bits v) (u.rows w) (e.rows a)))) → Copied (lookbacks_format t d) (both x (both y z)) c start (take n (drop start (recall lookbacks_code [] (weave_results (ranks_bits v) (u.rows w) (e.rows a)))))
lookbacks_copied_front t d u e {x} {y} {z} {c} v w a start n l p s q h o g =
    let all = weave_results (ranks_bits v) (u.rows w) (e.rows a) in
    let us = take n (drop start all) in
    let f = recall_parts lookbacks_code u.kin (results_format u e) q in
    let r : reaches lookbacks_code [] us ≡ true = rw o (reaches-take lookbacks_code n [] all f.reached) in
    let k : recall lookbacks_code [] us ≡ take n (drop start (recall lookbacks_code [] all)) = rw o (recall-take lookbacks_code n [] all) in
    let i = each_taken IsResult n (drop start all) (each_dropped IsResult start all (woven_results (ranks_bits v) (u.rows w) (e.rows a))) in
    recall_front lookbacks_code t.kin (results_format t d) us (map plainly us) _ start l.kindred (lookbacks_alike t d l p) s h o g (λ x' ws j. sym (plain_limits t d p x y z (length (weave_results (ranks_bits x) (t.rows y) (d.rows z))) x' us ws i) ∙ j) (storing_range (ranks_bits v) (u.rows w) (e.rows a) n start) r k

pub lookbacks_refused_range : (t d u e : Format) {x y z c : Content} (v w a : Content) (start n : ℕ) {error : GrowError} → IsPlain d → IsSound (lookbacks_format t d) (both x (both y z)) → Refused (results_format t d) (both x (both y z)) c (take n (drop start (weave_results (ranks_bits v) (u.rows w) (e.rows a)))) error → Refused (lookbacks_format t d) (both x (both y z)) c (take n (drop start (recall lookbacks_code [] (weave_results (ranks_bits v) (u.rows w) (e.rows a))))) error
lookbacks_refused_range t d u e {x} {y} {z} {c} v w a start n p s g =
    let all = weave_results (ranks_bits v) (u.rows w) (e.rows a) in
    let us = take n (drop start all) in
    let i = each_taken IsResult n (drop start all) (each_dropped IsResult start all (woven_results (ranks_bits v) (u.rows w) (e.rows a))) in
    let m = append-nil us in
    let o = append-nil (map plainly us) in
    recall_refused_as lookbacks_code t.kin (results_format t d) us (map plainly us) _ s g (λ x' j. (rw (m, o) at (sym (plain_limits t d p x y z (length (weave_results (ranks_bits x) (t.rows y) (d.rows z))) x' us [] i))) ∙ j) (storing_range (ranks_bits v) (u.rows w) (e.rows a) n start)

-- The preconditions of a read of row i with a clear bit: it reads m values back, among those before it.
pub record Referred (t d : Format) (x y z : Content) (i before m : ℕ) : Type 0 where
  pub some_value : 1 ≤ before
  pub near : m ≤ before - 1
  pub within : before - 1 - m < length (t.rows y)
  pub row : slice_get (recall lookbacks_code [] (weave_results (ranks_bits x) (t.rows y) (d.rows z))) i ≡ slice_get (t.rows y) (before - 1 - m)

-- the position of the distance
pub distance_within : (t d : Format) {x y z : Content} (i before : ℕ) → IsSound (lookbacks_format t d) (both x (both y z)) → i < length (recall lookbacks_code [] (weave_results (ranks_bits x) (t.rows y) (d.rows z))) → slice_get (map truth (ranks_bits x)) i ≡ Some (truth false) → before ≡ ones (ranks_bits x) i → i - before < length (d.rows z)
distance_within t d {x} {y} {z} i before s l h e =
    let p = lookbacks_results t d s in
    let j = length-recall lookbacks_code [] (weave_results (ranks_bits x) (t.rows y) (d.rows z)) in
    let c = results_clear t d x y z i (omega (arith, l, j)) in
    let v = results_err_value t d i p h in
    omega (arith, c, v, e)

pub referred : (t d : Format) {x y z : Content} (i before m : ℕ) → IsSound (lookbacks_format t d) (both x (both y z)) → i < length (recall lookbacks_code [] (weave_results (ranks_bits x) (t.rows y) (d.rows z))) → slice_get (map truth (ranks_bits x)) i ≡ Some (truth false) → before ≡ ones (ranks_bits x) i → m < 2 ^ 8 → slice_get (d.rows z) (i - before) ≡ Some (unsigned_row w8 m) → Referred t d x y z i before m
referred t d {x} {y} {z} i before m s l h e b f =
    let j = length-recall lookbacks_code [] (weave_results (ranks_bits x) (t.rows y) (d.rows z)) in
    let k : i - before ≡ zeros (ranks_bits x) i = results_clear_of t d x y z i before e (omega (arith, l, j)) in
    let u = results_err t d x y z i (unsigned_row w8 m) h (rw k at f) in
    let w : distance (err (unsigned_row w8 m)) ≡ m = mod-eq_of_lt b in
    let r = lookbacks_reach t d i (err (unsigned_row w8 m)) s u in
    let c = ones_clear (ranks_bits x) i h in
    let a : m < before = omega (arith, r, w, c, e) in
    let q : (before - 1 - m) + suc (distance (err (unsigned_row w8 m))) ≡ ones (ranks_bits x) (i + 1) = omega (arith, a, w, c, e) in
    let n = lookbacks_within t d i (before - 1 - m) (err (unsigned_row w8 m)) s u q in
    let o = slice_get_some (t.rows y) (before - 1 - m) n in
    record {
      some_value = omega (arith, a);
      near = omega (arith, a);
      within = n;
      row = lookbacks_row t d i (before - 1 - m) (err (unsigned_row w8 m)) o.0 s u q o.1 ∙ sym o.1;
    }

-- a row with a set bit is the value at its position
pub set_within : (t d : Format) {x y z : Content} (i : ℕ) → IsSound (lookbacks_format t d) (both x (both y z)) → slice_get (map truth (ranks_bits x)) i ≡ Some (truth true) → ones (ranks_bits x) i < length (t.rows y)
set_within t d i s h = results_ok_value t d i (lookbacks_results t d s) h

pub set_row : (t d : Format) {x y z : Content} (i : ℕ) → IsSound (lookbacks_format t d) (both x (both y z)) → slice_get (map truth (ranks_bits x)) i ≡ Some (truth true) → slice_get (recall lookbacks_code [] (weave_results (ranks_bits x) (t.rows y) (d.rows z))) i ≡ slice_get (t.rows y) (ones (ranks_bits x) i)
set_row t d {x} {y} {z} i s h =
    let v = slice_get_some (t.rows y) (ones (ranks_bits x) i) (set_within t d i s h) in
    lookbacks_row t d i (ones (ranks_bits x) i) (ok v.0) v.0 s (results_ok t d x y z i v.0 h v.1) (omega (arith, ones_set (ranks_bits x) i h)) v.1 ∙ sym v.1

-- The effect of one inner row: it adds its value, if any, to the values, and otherwise its distance.

one_ok : (t d : Format) → IsLawful t → IsPlain d → (fs : List Row) (u : Row) → all_alike (result_alike t.alike d.alike) fs (u ∷ []) ≡ true → length (oks fs) ≡ length (value_of (ok_part u))
one_ok t d l p [] u h = cc
one_ok t d l p (f ∷ g ∷ fs) u h = let q = and_parts (result_alike t.alike d.alike f u) (all_alike (result_alike t.alike d.alike) (g ∷ fs) []) h in cc
one_ok t d l p (f ∷ []) u h =
    let q = and_parts (result_alike t.alike d.alike f u) true h in
    ap length (append-nil (value_of (ok_part f))) ∙ alike_length t.kin (value_of (ok_part f)) (value_of (ok_part u)) ((lookbacks_alike t d l p).value f u q.0)

pub values_pushed : (t d : Format) {x y z a b c : Content} (u : Row) → IsLawful t → IsPlain d → IsSound (results_format t d) (both x (both y z)) → Took (results_format t d) (both x (both y z)) (both a (both b c)) (u ∷ []) → length (t.rows b) ≡ length (t.rows y) + length (value_of (ok_part u))
values_pushed t d {x} {y} {z} {a} {b} {c} u l p s g =
    let i = results_oks t d s in
    let j = results_oks t d g.grew.sound in
    let k = ap oks g.grew.rows ∙ oks-append (weave_results (ranks_bits x) (t.rows y) (d.rows z)) g.fresh in
    let e : t.rows b ≡ t.rows y ++ oks g.fresh = sym j ∙ (k ∙ ap (λ (rs : List Row). rs ++ oks g.fresh) i) in
    ap length e ∙ (length-append (t.rows y) (oks g.fresh) ∙ ap (λ (n : ℕ). length (t.rows y) + n) (one_ok t d l p g.fresh u g.alike))

one_err : (t d : Format) → IsPlain d → (fs : List Row) (w : Row) → all_alike (result_alike t.alike d.alike) fs (err w ∷ []) ≡ true → errs fs ≡ w ∷ []
one_err t d p [] w h = cc
one_err t d p (f ∷ g ∷ fs) w h = let q = and_parts (result_alike t.alike d.alike f (err w)) (all_alike (result_alike t.alike d.alike) (g ∷ fs) []) h in cc
one_err t d p (f ∷ []) w h =
    let q = and_parts (result_alike t.alike d.alike f (err w)) true h in
    let r = and_parts (row_eq (bare_result f) (err unit)) (option_alike t.alike (ok_part f) none && option_alike d.alike (err_part f) (some w)) q.0 in
    let s = and_parts (option_alike t.alike (ok_part f) none) (option_alike d.alike (err_part f) (some w)) r.1 in
    let e = option_is d.alike p.exact (err_part f) w s.1 in
    ap (λ (o : Row). value_of o ++ []) e

pub distance_pushed : (t d : Format) {x y z a b c : Content} (w : Row) → IsPlain d → IsSound (results_format t d) (both x (both y z)) → Took (results_format t d) (both x (both y z)) (both a (both b c)) (err w ∷ []) → d.rows c ≡ d.rows z ++ w ∷ []
distance_pushed t d {x} {y} {z} {a} {b} {c} w p s g =
    let i = results_errs t d s in
    let j = results_errs t d g.grew.sound in
    let k = ap errs g.grew.rows ∙ errs-append (weave_results (ranks_bits x) (t.rows y) (d.rows z)) g.fresh in
    sym j ∙ (k ∙ (ap (λ (rs : List Row). rs ++ errs g.fresh) i ∙ ap (λ (rs : List Row). d.rows z ++ rs) (one_err t d p g.fresh w g.alike)))

pub byte_pushed : (t d : Format) {x y z a b c : Content} (m : ℕ) → m < 2 ^ 8 → IsPlain d → IsSound (results_format t d) (both x (both y z)) → Took (results_format t d) (both x (both y z)) (both a (both b c)) (err (unsigned_row w8 m) ∷ []) → d.rows c ≡ d.rows z ++ number m ∷ []
byte_pushed t d {x} {y} {z} m l p s g = distance_pushed t d (unsigned_row w8 m) p s g ∙ ap (λ (r : Row). d.rows z ++ r ∷ []) (byte_row m l)
