-- A column of values and repeats is lawful, and each repeat reads as the row before it.
use Rattle.std.proofs.Common.{◌≡◌, ℕ, zero, suc, ◌+◌, ◌-◌, ◌<◌, ◌≤◌, Bool, true, false, List, [], ◌∷◌, ◌++◌, length, take, refl, sym, ◌∙◌, ap, arith, inl, inr}
use Rattle.std.specs.Prelude.{slice_get, Some, None, nat_lt, cond, map}
use Rattle.std.proofs.lemmas.Bool.{and_parts, and_from, lt-ltb, ltb-true}
use Rattle.std.proofs.lemmas.List.{length-take-le, length-append}
use Rattle.columnar_base.specs.Row.{Row, number, integer, character, truth, unit, duration, tuple, none, some, ok, err, empty, more, variant, solo, team, tree, row_eq}
use Rattle.columnar_base.specs.RowLaws.{row_eq-is}
use Rattle.columnar_base.specs.Format.{Format, Content, both, first, moved, IsSound, IsLawful, IsStorable, IsSame, IsExact, all_alike}
use Rattle.columnar_base.specs.ChangeLaws.{slice_get_some}
use Rattle.columnar_sums.specs.Counting.{ones}
use Rattle.columnar_sums.specs.RankColumns.{ranks_bits}
use Rattle.columnar_sums.specs.CountLaws.{ones_zero, ones_true, ones_false}
use Rattle.columnar_sums.specs.Options.{weave, value_of, inner_of, bare_option, option_alike, options_format}
use Rattle.columnar_sums.specs.OptionLaws.{options_parts, options_lawful, options_storable}
use Rattle.columnar_sums.specs.WeaveLaws.{ones_nil, ones_most, ones_taken, weave-take, length-weave, bit_of_row}
use Rattle.columnar_lookback.specs.Recall.{recent, latest, recall, reaches}
use Rattle.columnar_lookback.specs.RecallLaws.{IsCode, ReadsAlike, recall_parts, recall_fine, recall_lawful, recall_storable, recall_at, reaches_at, length-recall}
use Rattle.columnar_lookback.specs.LatestLaws.{onto, length-onto, recent_onto, taken_at}
use Rattle.columnar_lookback.specs.Repeats.{repeats_code, repeats_format, starts_set, last_is}

-- the format

repeats_is_code : IsCode repeats_code
repeats_is_code = record { form = λ r. none; formed = λ r. inr (inl refl) }

is_some : Row → Bool
is_some (some r) = true
is_some _ = false

-- the value of a row, from the row without it
value_bare : (u : Row) → value_of u ≡ cond (is_some (bare_option u)) (inner_of u ∷ []) []
unfolding is_some
value_bare (number n) = refl
value_bare (integer n) = refl
value_bare (character n) = refl
value_bare (truth b) = refl
value_bare unit = refl
value_bare (duration s n) = refl
value_bare (tuple r s) = refl
value_bare none = refl
value_bare (some r) = refl
value_bare (ok r) = refl
value_bare (err r) = refl
value_bare empty = refl
value_bare (more r s) = refl
value_bare (variant v o) = refl
value_bare (solo r) = refl
value_bare (team r) = refl
value_bare (tree r s) = refl

one_alike : (kin : Row → Row → Bool) (b : Bool) (r s : Row) → kin r s ≡ true → all_alike kin (cond b (r ∷ []) []) (cond b (s ∷ []) []) ≡ true
one_alike kin true r s h = and_from _ _ h refl
one_alike kin false r s h = refl

-- the values of options that represent each other are kin
pub option_values : (t : Format) → IsLawful t → (u v : Row) → option_alike t.alike u v ≡ true → all_alike t.kin (value_of u) (value_of v) ≡ true
option_values t l u v h =
    let p = and_parts (row_eq (bare_option u) (bare_option v)) (t.alike (inner_of u) (inner_of v)) h in
    let e = row_eq-is (bare_option u) (bare_option v) p.0 in
    rw (value_bare u, value_bare v, e) (one_alike t.kin (is_some (bare_option v)) (inner_of u) (inner_of v) (l.related (inner_of u) (inner_of v) p.1))

some_bare : (u : Row) → bare_option u ≡ some unit → u ≡ some (inner_of u)
some_bare (some r) h = refl
some_bare (number n) h = cc
some_bare (integer n) h = cc
some_bare (character n) h = cc
some_bare (truth b) h = cc
some_bare unit h = cc
some_bare (duration s n) h = cc
some_bare (tuple r s) h = cc
some_bare none h = cc
some_bare (ok r) h = cc
some_bare (err r) h = cc
some_bare empty h = cc
some_bare (more r s) h = cc
some_bare (variant v o) h = cc
some_bare (solo r) h = cc
some_bare (team r) h = cc
some_bare (tree r s) h = cc

-- a row that represents a value equals it, if only equal rows represent each other
pub option_is : (same : Row → Row → Bool) → IsExact same → (u w : Row) → option_alike same u (some w) ≡ true → u ≡ some w
option_is same e u w h =
    let p = and_parts (row_eq (bare_option u) (some unit)) (same (inner_of u) w) h in
    let a = some_bare u (row_eq-is (bare_option u) (some unit) p.0) in
    a ∙ ap some (e.exact (inner_of u) w p.1)

pub repeats_alike : (t : Format) → IsLawful t → ReadsAlike repeats_code t.kin (option_alike t.alike)
repeats_alike t l = record { back = λ u v h. refl; value = option_values t l }

pub repeats_lawful : (t : Format) → IsLawful t → IsLawful (repeats_format t)
repeats_lawful t l = recall_lawful repeats_code t.kin (options_format t) repeats_is_code l.kindred (options_lawful t l)

pub repeats_storable : (t : Format) → IsStorable t → IsStorable (repeats_format t)
repeats_storable t l = recall_storable repeats_code t.kin (options_format t) (options_storable t l)

pub same_repeats : {t t' : Format} → t ≡ t' → repeats_format t ≡ repeats_format t'
same_repeats {t} {t'} q = rw q refl

-- lists

-- once there is a value, each row reaches one
more_values : (vs ws : List Row) → 1 ≤ length ws → 1 ≤ length (vs ++ ws)
more_values [] ws h = h
more_values (v ∷ vs) ws h = omega arith

pub reaches_near : (us ws : List Row) → 1 ≤ length ws → reaches repeats_code ws us ≡ true
reaches_near [] ws h = refl
reaches_near (u ∷ us) ws h = let m = more_values (value_of u) ws h in and_from _ _ (lt-ltb 0 (length (value_of u ++ ws)) (omega (arith, m))) (reaches_near us (value_of u ++ ws) m)

-- only the last value matters
nearest_kin : (kin : Row → Row → Bool) → IsSame kin → (ts vs ws : List Row) → kin (recent vs 0) (recent ws 0) ≡ true → kin (recent (ts ++ vs) 0) (recent (ts ++ ws) 0) ≡ true
nearest_kin kin e [] vs ws h = h
nearest_kin kin e (t ∷ ts) vs ws h = e.reflexive t

pub recall_near : (kin : Row → Row → Bool) → IsSame kin → (us vs ws : List Row) → kin (recent vs 0) (recent ws 0) ≡ true → all_alike kin (recall repeats_code vs us) (recall repeats_code ws us) ≡ true
recall_near kin e [] vs ws h = refl
recall_near kin e (u ∷ us) vs ws h = let m = nearest_kin kin e (value_of u) vs ws h in and_from _ _ m (recall_near kin e us (value_of u ++ vs) (value_of u ++ ws) m)

-- Each row reaches a value if the first one is a value.
pub starts_reaches : (b : List Bool) (vs : List Row) → reaches repeats_code [] (weave b vs) ≡ starts_set b
starts_reaches [] vs = refl
starts_reaches (true ∷ b) (v ∷ vs) = reaches_near (weave b vs) (v ∷ []) (omega arith)
starts_reaches (true ∷ b) [] = reaches_near (weave b []) (unit ∷ []) (omega arith)
starts_reaches (false ∷ b) vs = refl

pub latest_weave : (b : List Bool) (vs ws : List Row) → ones b (length b) ≡ length vs → latest repeats_code ws (weave b vs) ≡ onto vs ws
latest_weave [] [] ws e = refl
latest_weave [] (v ∷ vs) ws e = absurd (omega (arith, ones_nil 0))
latest_weave (false ∷ b) vs ws e = latest_weave b vs ws (omega (arith, e, ones_false b (length b)))
latest_weave (true ∷ b) [] ws e = absurd (omega (arith, e, ones_true b (length b)))
latest_weave (true ∷ b) (v ∷ vs) ws e = latest_weave b vs (v ∷ ws) (omega (arith, e, ones_true b (length b)))

-- the values of the set bits among the first n rows
latest_taken : (b : List Bool) (vs : List Row) (n : ℕ) → ones b n ≤ length vs → latest repeats_code [] (take n (weave b vs)) ≡ onto (take (ones b n) vs) []
latest_taken b vs n l =
    let e = weave-take n b vs in
    let m = length-take-le (ones b n) vs l in
    rw (← e) (latest_weave (take n b) (take (ones b n) vs) [] (ones_taken n b ∙ sym m))

-- reads

-- the values up to row i: there is one, there are as many in the column, and the last of them is the row
record UpTo (t : Format) (x y : Content) (i : ℕ) : Type 0 where
  some_value : 1 ≤ ones (ranks_bits x) (i + 1)
  all : ones (ranks_bits x) (i + 1) ≤ length (t.rows y)
  row : slice_get (recall repeats_code [] (weave (ranks_bits x) (t.rows y))) i ≡ Some (recent (onto (take (ones (ranks_bits x) (i + 1)) (t.rows y)) []) 0)

up_to : (t : Format) {x y : Content} (i : ℕ) → IsSound (repeats_format t) (both x y) → i < length (recall repeats_code [] (weave (ranks_bits x) (t.rows y))) → UpTo t x y i
up_to t {x} {y} i s l =
    let b = ranks_bits x in
    let vs = t.rows y in
    let p = recall_parts repeats_code t.kin (options_format t) s in
    let q = options_parts t p.inner in
    let m : i < length (weave b vs) = omega (arith, l, length-recall repeats_code [] (weave b vs)) in
    let u = slice_get_some (weave b vs) i m in
    let z : i + 1 ≡ suc i = omega arith in
    let w = ones_most b (suc i) (omega (arith, m, length-weave b vs)) in
    let c : ones b (suc i) ≤ length vs = omega (arith, w, q.level) in
    let r = reaches_at repeats_code [] (weave b vs) i u.0 p.reached u.1 in
    let d = latest_taken b vs (suc i) c in
    let g : 0 < length (onto (take (ones b (suc i)) vs) []) = rw d at r in
    let h = length-onto (take (ones b (suc i)) vs) [] in
    let f = length-take-le (ones b (suc i)) vs c in
    record {
      some_value = rw z (omega (arith, g, h, f));
      all = rw z c;
      row = rw z (recall_at repeats_code [] (weave b vs) i u.0 u.1 ∙ ap Some (ap (λ (ws : List Row). recent ws 0) d));
    }

pub repeats_some : (t : Format) {x y : Content} (i : ℕ) → IsSound (repeats_format t) (both x y) → i < length (recall repeats_code [] (weave (ranks_bits x) (t.rows y))) → 1 ≤ ones (ranks_bits x) (i + 1)
repeats_some t i s l = (up_to t i s l).some_value

pub repeats_within : (t : Format) {x y : Content} (i k : ℕ) → IsSound (repeats_format t) (both x y) → i < length (recall repeats_code [] (weave (ranks_bits x) (t.rows y))) → k + 1 ≡ ones (ranks_bits x) (i + 1) → k < length (t.rows y)
repeats_within t i k s l e = let a = (up_to t i s l).all in omega (arith, a, e)

-- Row i is value k if there are k + 1 values up to it.
pub repeats_row : (t : Format) {x y : Content} (i k : ℕ) → IsSound (repeats_format t) (both x y) → i < length (recall repeats_code [] (weave (ranks_bits x) (t.rows y))) → k + 1 ≡ ones (ranks_bits x) (i + 1) → slice_get (recall repeats_code [] (weave (ranks_bits x) (t.rows y))) i ≡ slice_get (t.rows y) k
repeats_row t {x} {y} i k s l e =
    let a = up_to t i s l in
    let n = ones (ranks_bits x) (i + 1) in
    let c = a.all in
    let f = length-take-le n (t.rows y) c in
    let h = slice_get_some (t.rows y) k (repeats_within t i k s l e) in
    let g = recent_onto (take n (t.rows y)) [] k 0 h.0 (taken_at n k (t.rows y) h.0 (omega (arith, e)) h.1) (omega (arith, e, f)) in
    a.row ∙ ap Some g ∙ sym h.1

-- the values up to row i, which adds one or not
ones_next : (b : List Bool) (i : ℕ) (z : Bool) → slice_get b i ≡ Some z → ones b (i + 1) ≡ ones b i + cond z 1 0
ones_next [] i z h = cc
ones_next (true ∷ b) zero z h = let e : true ≡ z = cc in rw (← e) (omega (arith, ones_true b 0, ones_zero b, ones_zero (true ∷ b)))
ones_next (false ∷ b) zero z h = let e : false ≡ z = cc in rw (← e) (omega (arith, ones_false b 0, ones_zero b, ones_zero (false ∷ b)))
ones_next (true ∷ b) (suc i) z h = let k : suc i + 1 ≡ suc (i + 1) = omega arith in rw k (omega (arith, ones_true b (i + 1), ones_true b i, ones_next b i z h))
ones_next (false ∷ b) (suc i) z h = let k : suc i + 1 ≡ suc (i + 1) = omega arith in rw k (omega (arith, ones_false b (i + 1), ones_false b i, ones_next b i z h))

pub ones_set : (b : List Bool) (i : ℕ) → slice_get (map truth b) i ≡ Some (truth true) → ones b i + 1 ≡ ones b (i + 1)
ones_set b i h = sym (ones_next b i true (bit_of_row b i true h))

pub ones_clear : (b : List Bool) (i : ℕ) → slice_get (map truth b) i ≡ Some (truth false) → ones b i ≡ ones b (i + 1)
ones_clear b i h = omega (arith, ones_next b i false (bit_of_row b i false h))

pub ones_left : (b : List Bool) (i : ℕ) → slice_get (map truth b) i ≡ Some (truth false) → 1 ≤ ones b (i + 1) → (ones b i - 1) + 1 ≡ ones b (i + 1)
ones_left b i h l = omega (arith, l, ones_clear b i h)

-- the last value, and the last row
pub latest_grows : (vs us : List Row) → length vs ≤ length (latest repeats_code vs us)
latest_grows vs [] = omega arith
latest_grows vs (u ∷ us) = omega (arith, latest_grows (value_of u ++ vs) us, length-append (value_of u) vs)

last_of : (kin : Row → Row → Bool) (vs us : List Row) (u r : Row) → last_is kin (recall repeats_code vs (u ∷ us)) r ≡ kin (recent (latest repeats_code vs (u ∷ us)) 0) r
last_of kin vs [] u r = refl
last_of kin vs (w ∷ us) u r = last_of kin (value_of u ++ vs) us w r

last_latest : (kin : Row → Row → Bool) (us : List Row) (r : Row) → 1 ≤ length (latest repeats_code [] us) → last_is kin (recall repeats_code [] us) r ≡ kin (recent (latest repeats_code [] us) 0) r
last_latest kin [] r h = absurd (omega arith)
last_latest kin (u ∷ us) r h = last_of kin [] us u r

-- The item is the same as the last row if it is the same as the last value.
pub repeats_last : (t : Format) {x y : Content} (i : ℕ) (v r : Row) → IsSound (repeats_format t) (both x y) → i + 1 ≡ length (t.rows y) → slice_get (t.rows y) i ≡ Some v → t.kin v r ≡ last_is t.kin (recall repeats_code [] (weave (ranks_bits x) (t.rows y))) r
repeats_last t {x} {y} i v r s l h =
    let b = ranks_bits x in
    let vs = t.rows y in
    let p = recall_parts repeats_code t.kin (options_format t) s in
    let q = options_parts t p.inner in
    let d = latest_weave b vs [] q.level in
    let n = length-onto vs [] in
    let g = recent_onto vs [] i 0 v h (omega (arith, l)) in
    sym (last_latest t.kin (weave b vs) r (rw d (omega (arith, n, l))) ∙ rw (d, g) refl)

no_rows : (us : List Row) → reaches repeats_code [] us ≡ true → length (latest repeats_code [] us) ≡ 0 → us ≡ []
no_rows [] p e = refl
no_rows (u ∷ us) p e =
    let q = and_parts (nat_lt 0 (length (value_of u ++ []))) (reaches repeats_code (value_of u ++ []) us) p in
    absurd (omega (arith, e, ltb-true 0 (length (value_of u ++ [])) q.0, latest_grows (value_of u ++ []) us))

pub repeats_last_none : (t : Format) {x y : Content} (r : Row) → IsSound (repeats_format t) (both x y) → length (t.rows y) ≡ 0 → false ≡ last_is t.kin (recall repeats_code [] (weave (ranks_bits x) (t.rows y))) r
repeats_last_none t {x} {y} r s e =
    let b = ranks_bits x in
    let vs = t.rows y in
    let p = recall_parts repeats_code t.kin (options_format t) s in
    let q = options_parts t p.inner in
    let d = latest_weave b vs [] q.level in
    let n = length-onto vs [] in
    let z = no_rows (weave b vs) p.reached (rw d (omega (arith, n, e))) in
    rw z refl

-- the parts of well-formed repeats
pub repeats_options : (t : Format) {c : Content} → IsSound (repeats_format t) c → IsSound (options_format t) c
repeats_options t s = (recall_parts repeats_code t.kin (options_format t) s).inner

pub repeats_values : (t : Format) {x y : Content} → IsSound (repeats_format t) (both x y) → IsSound t y
repeats_values t s = (options_parts t (repeats_options t s)).values

pub length-repeats : (t : Format) (x y : Content) → length (recall repeats_code [] (weave (ranks_bits x) (t.rows y))) ≡ length (ranks_bits x)
length-repeats t x y = length-recall repeats_code [] (weave (ranks_bits x) (t.rows y)) ∙ length-weave (ranks_bits x) (t.rows y)

-- the answer of a test that found no fault of the options
pub repeats_fine : (t : Format) (x y : Content) (at : ℕ) → None ≡ first (moved at ((options_format t).broken (both x y))) → starts_set (ranks_bits x) ≡ true → None ≡ first (moved at ((repeats_format t).broken (both x y)))
repeats_fine t x y at h e = recall_fine repeats_code t.kin (options_format t) (both x y) at h (starts_reaches (ranks_bits x) (t.rows y) ∙ e)
