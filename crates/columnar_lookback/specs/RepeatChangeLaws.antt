-- Columns of repeats after pushes and copies.
use Rattle.std.proofs.Common.{◌≡◌, ℕ, zero, suc, ◌+◌, ◌-◌, ◌<◌, ◌≤◌, Bool, true, false, List, [], ◌∷◌, ◌++◌, length, take, drop, append-nil, refl, sym, ◌∙◌, ap, arith, ◌⊎◌, inl, inr}
use Rattle.std.specs.Prelude.{slice_get, Some, nat_lt, cond}
use Rattle.std.proofs.lemmas.Bool.{and_parts, and_from, lt-ltb, ltb-true}
use Rattle.std.proofs.lemmas.List.{length-append, nil_from_length}
use Rattle.columnar_base.specs.Row.{Row, unit, none, some}
use Rattle.columnar_base.specs.Format.{Format, Content, both, IsSound, IsLawful, all_alike}
use Rattle.columnar_base.specs.AlikeLaws.{alike_length}
use Rattle.columnar_base.specs.Change.{WasCut, Took, Copied, Refused}
use Rattle.columnar_base.specs.ChangeLaws.{true_from, took_twice, took_none, grew_stayed, undone, slice_get_some}
use Rattle.columnar_base.specs.declared.fault.GrowError.{GrowError}
use Rattle.columnar_sums.specs.RankColumns.{ranks_bits}
use Rattle.columnar_sums.specs.Options.{weave, value_of, somes, option_alike, options_format}
use Rattle.columnar_sums.specs.OptionLaws.{options_somes}
use Rattle.columnar_sums.specs.WeaveLaws.{somes-append}
use Rattle.columnar_lookback.specs.Recall.{recent, latest, recall, reaches}
use Rattle.columnar_lookback.specs.RecallLaws.{Among, IsStoring, recall_parts, recall_stayed, recall_took, recall_refused, recall_at, reaches-take, length-recall, recall-take, recall_front, range_recalled, Each, each_taken, each_dropped}
use Rattle.columnar_lookback.specs.Repeats.{repeats_code, repeats_format, last_is, values_between}
use Rattle.columnar_lookback.specs.RepeatLaws.{repeats_options, option_values, repeats_alike, repeats_lawful, reaches_near, recall_near, latest_grows}

-- one row

pub repeats_took_value : (t : Format) {x y : Content} {r : Row} → IsLawful t → IsSound (repeats_format t) x → Took (options_format t) x y (some r ∷ []) → Took (repeats_format t) x y (r ∷ [])
repeats_took_value t {x} {y} {r} l s g =
    let vs = latest repeats_code [] ((options_format t).rows x) in
    recall_took repeats_code t.kin (options_format t) (some r ∷ []) (r ∷ []) l.kindred (repeats_alike t l) s g (inl refl, tt) (and_from _ _ (lt-ltb 0 (length (r ∷ vs)) (omega arith)) refl) (and_from _ _ (l.kindred.reflexive r) refl)

-- the last row is the last value
last_recall : (kin : Row → Row → Bool) (vs us : List Row) (r : Row) → last_is kin (recall repeats_code vs us) r ≡ true → kin (recent (latest repeats_code vs us) 0) r ≡ true
last_recall kin vs [] r h = cc
last_recall kin vs (u ∷ []) r h = h
last_recall kin vs (u ∷ w ∷ us) r h = last_recall kin (value_of u ++ vs) (w ∷ us) r h

some_latest : (kin : Row → Row → Bool) (us : List Row) (r : Row) → reaches repeats_code [] us ≡ true → last_is kin (recall repeats_code [] us) r ≡ true → 1 ≤ length (latest repeats_code [] us)
some_latest kin [] r p h = cc
some_latest kin (u ∷ us) r p h =
    let q = and_parts (nat_lt 0 (length (value_of u ++ []))) (reaches repeats_code (value_of u ++ []) us) p in
    omega (arith, ltb-true 0 (length (value_of u ++ [])) q.0, latest_grows (value_of u ++ []) us)

pub repeats_took_none : (t : Format) {x y : Content} {r : Row} → IsLawful t → IsSound (repeats_format t) x → last_is t.kin (recall repeats_code [] ((options_format t).rows x)) r ≡ true → Took (options_format t) x y (none ∷ []) → Took (repeats_format t) x y (r ∷ [])
repeats_took_none t {x} {y} {r} l s h g =
    let us = (options_format t).rows x in
    let p = recall_parts repeats_code t.kin (options_format t) s in
    let vs = latest repeats_code [] us in
    let n = some_latest t.kin us r p.reached h in
    recall_took repeats_code t.kin (options_format t) (none ∷ []) (r ∷ []) l.kindred (repeats_alike t l) s g (inr (inl refl), tt) (and_from _ _ (lt-ltb 0 (length vs) (omega (arith, n))) refl) (and_from _ _ (last_recall t.kin [] us r h) refl)

pub repeats_refused_value : (t : Format) {x y : Content} {r : Row} {error : GrowError} → IsSound (repeats_format t) x → Refused (options_format t) x y (some r ∷ []) error → Refused (repeats_format t) x y (r ∷ []) error
repeats_refused_value t {x} {y} {r} s g = recall_refused repeats_code t.kin (options_format t) (some r ∷ []) (r ∷ []) s g (inl refl, tt)

pub repeats_refused_none : (t : Format) {x y : Content} {r : Row} {error : GrowError} → IsSound (repeats_format t) x → Refused (options_format t) x y (none ∷ []) error → Refused (repeats_format t) x y (r ∷ []) error
repeats_refused_none t {x} {y} {r} s g = recall_refused repeats_code t.kin (options_format t) (none ∷ []) (r ∷ []) s g (inr (inl refl), tt)

-- the values that inner rows add
same_values : (t : Format) → IsLawful t → (fs us : List Row) → all_alike (option_alike t.alike) fs us ≡ true → length (somes fs) ≡ length (somes us)
same_values t l [] [] h = refl
same_values t l [] (u ∷ us) h = cc
same_values t l (f ∷ fs) [] h = cc
same_values t l (f ∷ fs) (u ∷ us) h =
    let p = and_parts (option_alike t.alike f u) (all_alike (option_alike t.alike) fs us) h in
    omega (arith, length-append (value_of f) (somes fs), length-append (value_of u) (somes us), alike_length t.kin (value_of f) (value_of u) (option_values t l f u p.0), same_values t l fs us p.1)

-- As many values are stored as the inner rows add.
pub values_stored : (t : Format) {x y v w : Content} (us : List Row) → IsLawful t → IsSound (options_format t) (both x y) → Took (options_format t) (both x y) (both v w) us → length (t.rows w) ≡ length (t.rows y) + length (somes us)
values_stored t {x} {y} {v} {w} us l s g =
    let a = options_somes t s in
    let b = options_somes t g.grew.sound in
    let c = ap somes g.grew.rows ∙ somes-append (weave (ranks_bits x) (t.rows y)) g.fresh in
    let d : t.rows w ≡ t.rows y ++ somes g.fresh = sym b ∙ (c ∙ ap (λ (rs : List Row). rs ++ somes g.fresh) a) in
    ap length d ∙ (length-append (t.rows y) (somes g.fresh) ∙ ap (λ (n : ℕ). length (t.rows y) + n) (same_values t l g.fresh us g.alike))

pub values_pushed : (t : Format) {x y v w : Content} (u : Row) → IsLawful t → IsSound (options_format t) (both x y) → Took (options_format t) (both x y) (both v w) (u ∷ []) → length (t.rows w) ≡ length (t.rows y) + length (value_of u)
values_pushed t {x} {y} {v} {w} u l s g = values_stored t (u ∷ []) l s g ∙ ap (λ (vs : List Row). length (t.rows y) + length vs) (append-nil (value_of u))

-- a range has at least the values after its first row
values_after : (us : List Row) (n start : ℕ) → length (somes (take n (drop (suc start) us))) ≤ length (somes (take (suc n) (drop start us)))
values_after us zero start = omega arith
values_after [] (suc n) start = omega arith
values_after (u ∷ us) (suc n) zero = omega (arith, length-append (value_of u) (somes (take (suc n) us)))
values_after (u ∷ us) (suc n) (suc start) = values_after us (suc n) start

at_most_one : (b : Bool) → cond b 0 1 ≤ 1
at_most_one true = omega arith
at_most_one false = omega arith

-- the first row of a range was pushed, and those after it were copied
pub values_copied : (us : List Row) (start end old middle new : ℕ) (b : Bool) → start < end → middle ≡ old + cond b 0 1 → new ≡ middle + values_between us (start + 1) end → new ≤ old + (values_between us start end + 1)
values_copied us start end old middle new b i p q =
    let e : end - start ≡ suc (end - (start + 1)) = omega (arith, i) in
    let z : start + 1 ≡ suc start = omega arith in
    let n = end - (start + 1) in
    let d : values_between us (start + 1) end ≡ length (somes (take n (drop (suc start) us))) = ap (λ (m : ℕ). length (somes (take n (drop m us)))) z in
    let f : values_between us start end ≡ length (somes (take (suc n) (drop start us))) = ap (λ (m : ℕ). length (somes (take m (drop start us)))) e in
    omega (arith, p, q, d, f, values_after us n start, at_most_one b)

-- the same, for that row
pub values_counted : (same : Row → Row → Bool) (xs : List Row) (q r : Row) (old middle new rest : ℕ) → Some q ≡ Some r → middle ≡ old + cond (last_is same xs q) 0 1 → new ≡ middle + rest → new ≡ old + cond (last_is same xs r) 0 1 + rest
values_counted same xs q r old middle new rest h p e =
    let d : q ≡ r = cc in
    let m : middle ≡ old + cond (last_is same xs r) 0 1 = rw d at p in
    rw (← m) e

-- a column without rows has no values; after a copy of a range from row 0, its values are those of the range
no_values_held : (t : Format) {x y : Content} → IsSound (repeats_format t) (both x y) → (repeats_format t).rows (both x y) ≡ [] → length (t.rows y) ≡ 0
no_values_held t {x} {y} s e =
    let n : weave (ranks_bits x) (t.rows y) ≡ [] = nil_from_length (weave (ranks_bits x) (t.rows y)) (sym (length-recall repeats_code [] (weave (ranks_bits x) (t.rows y))) ∙ ap length e) in
    ap length (sym (options_somes t (repeats_options t s)) ∙ ap somes n)

pub nothing_between : (t : Format) {x : Content} (y : Content) → IsSound (repeats_format t) (both x y) → (us : List Row) (end : ℕ) → (repeats_format t).rows (both x y) ≡ [] → end ≡ 0 → length (t.rows y) ≡ values_between us 0 end
nothing_between t y s us end e z = rw z (no_values_held t s e)

pub values_front : (t : Format) {x y v w : Content} (us : List Row) (start end : ℕ) → IsLawful t → IsSound (repeats_format t) (both x y) → (repeats_format t).rows (both x y) ≡ [] → start ≡ 0 → Took (options_format t) (both x y) (both v w) (take (end - start) (drop start us)) → length (t.rows w) ≡ values_between us 0 end
values_front t {x} {y} {v} {w} us start end l s e z g =
    let n = values_stored t (take (end - start) (drop start us)) l (repeats_options t s) g in
    let k = no_values_held t s e in
    let q : length (t.rows w) ≡ values_between us start end = omega (arith, n, k) in
    rw z at q

-- ranges

-- the row is a value or none
abbrev IsOption : Row → Type 0
IsOption u = ((r : Row) × (u ≡ some r)) ⊎ (u ≡ none)

woven : (b : List Bool) (vs : List Row) → Each IsOption (weave b vs)
woven [] vs = tt
woven (false ∷ b) vs = (inr refl, woven b vs)
woven (true ∷ b) (v ∷ vs) = (inl (v, refl), woven b vs)
woven (true ∷ b) [] = (inl (unit, refl), woven b [])

-- a row that an inner row reads as may be stored as that inner row
form_of : (u : Row) (vs : List Row) → IsOption u → Among u (repeats_code.forms (recent (value_of u ++ vs) 0))
form_of u vs a = elim a [ inl p ↦ inl (rw p.1 refl) | inr e ↦ inr (inl e) ]

storing_recalled : (vs us : List Row) → Each IsOption us → IsStoring repeats_code us (recall repeats_code vs us)
storing_recalled vs [] a = tt
storing_recalled vs (u ∷ us) a = (form_of u vs a.0, storing_recalled (value_of u ++ vs) us a.1)

-- the inner rows of a range are a way of storing its rows
storing_range : (b : List Bool) (vs : List Row) (n start : ℕ) → IsStoring repeats_code (take n (drop start (weave b vs))) (take n (drop start (recall repeats_code [] (weave b vs))))
storing_range b vs n start = rw (range_recalled repeats_code n start (weave b vs)) at (storing_recalled (latest repeats_code [] (take start (weave b vs))) (take n (drop start (weave b vs))) (each_taken IsOption n (drop start (weave b vs)) (each_dropped IsOption start (weave b vs) (woven b vs))))

-- a range starts with its first row
drop_first : (rs : List Row) (i : ℕ) (r : Row) → slice_get rs i ≡ Some r → drop i rs ≡ r ∷ drop (suc i) rs
drop_first [] i r h = cc
drop_first (x ∷ rs) zero r h = let e : x ≡ r = cc in rw e refl
drop_first (x ∷ rs) (suc i) r h = drop_first rs i r h

range_first : (rs : List Row) (start end : ℕ) (r : Row) → start < end → slice_get rs start ≡ Some r → take (end - start) (drop start rs) ≡ r ∷ take (end - (start + 1)) (drop (start + 1) rs)
range_first rs start end r l h =
    let e : end - start ≡ suc (end - (start + 1)) = omega arith in
    let z : start + 1 ≡ suc start = omega arith in
    let d = drop_first rs start r h in
    ap (λ (n : ℕ). take n (drop start rs)) e ∙ (ap (take (suc (end - (start + 1)))) d ∙ ap (λ (n : ℕ). r ∷ take (end - (start + 1)) (drop n rs)) (sym z))

pub copied_nothing : {f : Format} {c : Content} (start end : ℕ) (rs : List Row) → IsSound f c → end ≤ start → Copied f c c start (take (end - start) (drop start rs))
copied_nothing {f} {c} start end rs s l =
    let e : end - start ≡ 0 = omega arith in
    rw e (record { took = took_none s; front = λ n z. n })

-- A range from row 0 that is copied into a column without rows is unchanged.
pub repeats_copied_front : (t u : Format) {x x' : Content} (v w : Content) (start n : ℕ) → IsLawful t → IsSound (repeats_format t) x → IsSound (repeats_format u) (both v w) → recall repeats_code [] ((options_format t).rows x) ≡ [] → start ≡ 0 → Copied (options_format t) x x' start (take n (drop start (weave (ranks_bits v) (u.rows w)))) → Copied (repeats_format t) x x' start (take n (drop start (recall repeats_code [] (weave (ranks_bits v) (u.rows w)))))
repeats_copied_front t u {x} {x'} v w start n l s q h z g =
    let all = weave (ranks_bits v) (u.rows w) in
    let p = recall_parts repeats_code u.kin (options_format u) q in
    let r : reaches repeats_code [] (take n (drop start all)) ≡ true = rw z (reaches-take repeats_code n [] all p.reached) in
    let k : recall repeats_code [] (take n (drop start all)) ≡ take n (drop start (recall repeats_code [] all)) = rw z (recall-take repeats_code n [] all) in
    recall_front repeats_code t.kin (options_format t) _ _ _ start l.kindred (repeats_alike t l) s h z g (λ e ws i. i) (storing_range (ranks_bits v) (u.rows w) n start) r k

one_alike_row : (same : Row → Row → Bool) (fs xs : List Row) (r : Row) → all_alike same fs (r ∷ []) ≡ true → last_is same (xs ++ fs) r ≡ true
one_alike_row same [] xs r h = cc
one_alike_row same (f ∷ g ∷ fs) xs r h = let p = and_parts (same f r) (all_alike same (g ∷ fs) []) h in cc
one_alike_row same (f ∷ []) [] r h = (and_parts (same f r) true h).0
one_alike_row same (f ∷ []) (x ∷ []) r h = (and_parts (same f r) true h).0
one_alike_row same (f ∷ []) (x ∷ y ∷ xs) r h = one_alike_row same (f ∷ []) (y ∷ xs) r h

pub repeats_refused_range : (t u : Format) {x y : Content} (v w : Content) (start n : ℕ) {error : GrowError} → IsSound (repeats_format t) x → Refused (options_format t) x y (take n (drop start (weave (ranks_bits v) (u.rows w)))) error → Refused (repeats_format t) x y (take n (drop start (recall repeats_code [] (weave (ranks_bits v) (u.rows w))))) error
repeats_refused_range t u v w start n s g = recall_refused repeats_code t.kin (options_format t) _ _ s g (storing_range (ranks_bits v) (u.rows w) n start)

-- The inner rows after the first row of a range read as the same rows after a row that is kin to it.
took_rest : (t u : Format) {x m x' : Content} (v w : Content) (start from n : ℕ) (r : Row) → from ≡ suc start → IsLawful t → slice_get (recall repeats_code [] (weave (ranks_bits v) (u.rows w))) start ≡ Some r → start < length (weave (ranks_bits v) (u.rows w)) → Took (repeats_format t) x m (r ∷ []) → Took (options_format t) m x' (take n (drop from (weave (ranks_bits v) (u.rows w)))) → Took (repeats_format t) m x' (take n (drop from (recall repeats_code [] (weave (ranks_bits v) (u.rows w)))))
took_rest t u {x} {m} {x'} v w start from n r z l h i g k =
    let all = weave (ranks_bits v) (u.rows w) in
    let us = take n (drop from all) in
    let ws = latest repeats_code [] (take from all) in
    let inner = (options_format t).rows m in
    let q = recall_parts repeats_code t.kin (options_format t) g.grew.sound in
    let b : last_is t.kin (recall repeats_code [] inner) r ≡ true = rw g.grew.rows (one_alike_row t.kin g.fresh ((repeats_format t).rows x) r g.alike) in
    let a = slice_get_some all start i in
    let d : recent ws 0 ≡ r = rw z (let c = recall_at repeats_code [] all start a.0 a.1 in cc) in
    let e : t.kin (recent (latest repeats_code [] inner) 0) (recent ws 0) ≡ true = rw d (last_recall t.kin [] inner r b) in
    let f = range_recalled repeats_code n from all in
    rw f at (recall_took repeats_code t.kin (options_format t) us (recall repeats_code ws us) l.kindred (repeats_alike t l) g.grew.sound k (storing_recalled ws us (each_taken IsOption n (drop from all) (each_dropped IsOption from all (woven (ranks_bits v) (u.rows w))))) (reaches_near us (latest repeats_code [] inner) (some_latest t.kin inner r q.reached b)) (recall_near t.kin l.kindred us (latest repeats_code [] inner) ws e))

-- the first row of the range was pushed, and the inner rows after it were copied
pub repeats_copied_rest : (t u : Format) {x m y : Content} (v w : Content) (start end : ℕ) (r : Row) → IsLawful t → start < end → end ≤ length (recall repeats_code [] (weave (ranks_bits v) (u.rows w))) → slice_get (recall repeats_code [] (weave (ranks_bits v) (u.rows w))) start ≡ Some r → ((repeats_format t).rows x ≡ [] → start ≡ 0 → ⊥) → Took (repeats_format t) x m (r ∷ []) → Copied (options_format t) m y (start + 1) (take (end - (start + 1)) (drop (start + 1) (weave (ranks_bits v) (u.rows w)))) → Copied (repeats_format t) x y start (take (end - start) (drop start (recall repeats_code [] (weave (ranks_bits v) (u.rows w)))))
repeats_copied_rest t u {x} {m} {y} v w start end r l i j h inner g k =
    let all = weave (ranks_bits v) (u.rows w) in
    let d = took_rest t u v w start (start + 1) (end - (start + 1)) r (omega arith) l h (omega (arith, i, j, length-recall repeats_code [] all)) g k.took in
    record {
      took = rw (range_first (recall repeats_code [] all) start end r i h) (took_twice g d);
      front = λ p q. absurd (inner p q);
    }

-- the first row of a range was refused
pub repeats_refused_first : (t : Format) {x y : Content} (rs : List Row) (start end : ℕ) (r : Row) {error : GrowError} → IsLawful t → start < end → slice_get rs start ≡ Some r → Refused (repeats_format t) x y (r ∷ []) error → Refused (repeats_format t) x y (take (end - start) (drop start rs)) error
repeats_refused_first t {x} {y} rs start end r {error} l i h g =
    let rest = take (end - (start + 1)) (drop (start + 1) rs) in
    record {
      stayed = g.stayed;
      cause = rw (range_first rs start end r i h) (true_from (repeats_format t) (repeats_format t) x x (r ∷ []) (r ∷ rest) error (λ e k. (repeats_lawful t l).more e x (length ((repeats_format t).rows x)) (r ∷ []) rest k) g.cause);
    }

-- the rows after it were refused, and it was removed again
pub repeats_refused_rest : (t u : Format) {x m y z : Content} (v w : Content) (start end : ℕ) (r : Row) {error : GrowError} → IsLawful t → start < end → slice_get (recall repeats_code [] (weave (ranks_bits v) (u.rows w))) start ≡ Some r → IsSound (repeats_format t) x → Took (repeats_format t) x m (r ∷ []) → Refused (options_format t) m y (take (end - (start + 1)) (drop (start + 1) (weave (ranks_bits v) (u.rows w)))) error → WasCut (repeats_format t) y z (length ((repeats_format t).rows x)) → Refused (repeats_format t) x z (take (end - start) (drop start (recall repeats_code [] (weave (ranks_bits v) (u.rows w))))) error
repeats_refused_rest t u {x} {m} {y} {z} v w start end r {error} l i h s g k c =
    let rs = recall repeats_code [] (weave (ranks_bits v) (u.rows w)) in
    let rest = take (end - (start + 1)) (drop (start + 1) rs) in
    let q = repeats_refused_range t u v w (start + 1) (end - (start + 1)) g.grew.sound k in
    record {
      stayed = undone (repeats_lawful t l) s (grew_stayed g.grew q.stayed) c;
      cause = rw (range_first rs start end r i h) (true_from (repeats_format t) (repeats_format t) m x rest (r ∷ rest) error (λ e n. g.adds e rest n) q.cause);
    }

-- the precondition of removing it again
pub repeats_taken_back : (t : Format) {x m y : Content} (us : List Row) {r : Row} {error : GrowError} → IsSound (repeats_format t) x → Took (repeats_format t) x m (r ∷ []) → Refused (options_format t) m y us error → IsSound (repeats_format t) y × (length ((options_format t).rows x) ≤ length (recall repeats_code [] ((options_format t).rows y)))
repeats_taken_back t {x} {m} {y} us s g k =
    let q = recall_stayed repeats_code t.kin (options_format t) g.grew.sound k.stayed in
    let n = ap length q.rows in
    let o = ap length g.grew.rows in
    let j = length-append ((repeats_format t).rows x) g.fresh in
    (q.sound, omega (arith, n, o, j, length-recall repeats_code [] ((options_format t).rows x)))

-- a column of no inner rows has no rows
pub repeats_nothing : (t : Format) (x : Content) → length ((options_format t).rows x) ≡ 0 → (repeats_format t).rows x ≡ []
repeats_nothing t x e = ap (recall repeats_code []) (nil_from_length ((options_format t).rows x) e)

pub repeats_something : (t : Format) (x : Content) → (repeats_format t).rows x ≡ [] → length ((options_format t).rows x) ≡ 0
repeats_something t x e = sym (length-recall repeats_code [] ((options_format t).rows x)) ∙ ap length e
