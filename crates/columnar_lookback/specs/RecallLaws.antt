-- Laws of all columns in which a row may refer to an earlier one.
use Rattle.std.proofs.Common.{◌≡◌, ℕ, zero, suc, ◌+◌, ◌-◌, ◌<◌, ◌≤◌, Bool, true, false, List, [], ◌∷◌, ◌++◌, length, take, drop, refl, sym, ◌∙◌, ap, arith, ◌⊎◌, inl, inr}
use Rattle.std.specs.Prelude.{slice_get, Some, None, nat_lt}
use Rattle.std.proofs.lemmas.Bool.{and_parts, and_from, or_left, or_right, lt-ltb, ltb-true}
use Rattle.std.proofs.lemmas.List.{nil_from_length, length-append, map-append}
use Rattle.columnar_base.specs.Row.{Row, unit}
use Rattle.columnar_base.specs.Format.{Format, Content, Fault, fault, first, moved, moved_one, unless, IsSound, IsLawful, IsStorable, IsSame, lengths, all_alike, Excess, refuses_more}
use Rattle.columnar_base.specs.FaultLaws.{first_none, first_found, nothing_left, nothing_both, nothing_moved, unless_true, true_unless}
use Rattle.columnar_base.specs.AlikeLaws.{all_alike-append, alike_length, alike_all, alike_on}
use Rattle.columnar_base.specs.Change.{Keeps, Stayed, WasCut, Took, Copied, Refused}
use Rattle.columnar_base.specs.ChangeLaws.{true_from, took_none, undone, grew_stayed, refused_more}
use Rattle.columnar_base.specs.TupleLaws.{or_both}
use Rattle.columnar_base.specs.declared.fault.GrowError.{GrowError}
use Rattle.columnar_lookback.specs.Recall.{Code, recent, latest, recall, reaches, any_row, some_storing, recalled}

-- lists

pub length-recall : (k : Code) (vs us : List Row) → length (recall k vs us) ≡ length us
length-recall k vs [] = refl
length-recall k vs (u ∷ us) = ap suc (length-recall k (k.value u ++ vs) us)

pub recall-append : (k : Code) (vs us ws : List Row) → recall k vs (us ++ ws) ≡ recall k vs us ++ recall k (latest k vs us) ws
recall-append k vs [] ws = refl
recall-append k vs (u ∷ us) ws = ap (λ t. recent (k.value u ++ vs) (k.back u) ∷ t) (recall-append k (k.value u ++ vs) us ws)

pub recall-take : (k : Code) (n : ℕ) (vs us : List Row) → recall k vs (take n us) ≡ take n (recall k vs us)
recall-take k zero vs us = refl
recall-take k (suc n) vs [] = refl
recall-take k (suc n) vs (u ∷ us) = ap (λ t. recent (k.value u ++ vs) (k.back u) ∷ t) (recall-take k n (k.value u ++ vs) us)

pub recall-drop : (k : Code) (n : ℕ) (vs us : List Row) → recall k (latest k vs (take n us)) (drop n us) ≡ drop n (recall k vs us)
recall-drop k zero vs us = refl
recall-drop k (suc n) vs [] = refl
recall-drop k (suc n) vs (u ∷ us) = recall-drop k n (k.value u ++ vs) us

pub reaches-append : (k : Code) (vs us ws : List Row) → reaches k vs us ≡ true → reaches k (latest k vs us) ws ≡ true → reaches k vs (us ++ ws) ≡ true
reaches-append k vs [] ws p q = q
reaches-append k vs (u ∷ us) ws p q =
    let h = and_parts (nat_lt (k.back u) (length (k.value u ++ vs))) (reaches k (k.value u ++ vs) us) p in
    and_from _ _ h.0 (reaches-append k (k.value u ++ vs) us ws h.1 q)

pub reaches-take : (k : Code) (n : ℕ) (vs us : List Row) → reaches k vs us ≡ true → reaches k vs (take n us) ≡ true
reaches-take k zero vs us p = refl
reaches-take k (suc n) vs [] p = refl
reaches-take k (suc n) vs (u ∷ us) p =
    let h = and_parts (nat_lt (k.back u) (length (k.value u ++ vs))) (reaches k (k.value u ++ vs) us) p in
    and_from _ _ h.0 (reaches-take k n (k.value u ++ vs) us h.1)

-- row i is the value that its inner row reaches
pub recall_at : (k : Code) (vs us : List Row) (i : ℕ) (u : Row) → slice_get us i ≡ Some u → slice_get (recall k vs us) i ≡ Some (recent (latest k vs (take (suc i) us)) (k.back u))
recall_at k vs [] i u h = cc
recall_at k vs (w ∷ us) zero u h = let e : w ≡ u = cc in rw e refl
recall_at k vs (w ∷ us) (suc i) u h = recall_at k (k.value w ++ vs) us i u h

pub reaches_at : (k : Code) (vs us : List Row) (i : ℕ) (u : Row) → reaches k vs us ≡ true → slice_get us i ≡ Some u → k.back u < length (latest k vs (take (suc i) us))
reaches_at k vs [] i u p h = cc
reaches_at k vs (w ∷ us) zero u p h =
    let e : w ≡ u = cc in
    let q = and_parts (nat_lt (k.back w) (length (k.value w ++ vs))) (reaches k (k.value w ++ vs) us) p in
    rw (← e) (ltb-true (k.back w) (length (k.value w ++ vs)) q.0)
reaches_at k vs (w ∷ us) (suc i) u p h = reaches_at k (k.value w ++ vs) us i u (and_parts (nat_lt (k.back w) (length (k.value w ++ vs))) (reaches k (k.value w ++ vs) us) p).1 h

-- ways of storing rows

-- u is one of the rows
abbrev pub Among : Row → List Row → Type 0
Among u [] = ⊥
Among u (v ∷ vs) = (u ≡ v) ⊎ Among u vs

-- one for one, us are forms of the rows
abbrev pub IsStoring : Code → List Row → List Row → Type 0
IsStoring k [] [] = Unit {0}
IsStoring k [] (r ∷ rs) = ⊥
IsStoring k (u ∷ us) [] = ⊥
IsStoring k (u ∷ us) (r ∷ rs) = Among u (k.forms r) × IsStoring k us rs

any_found : (p : Row → Bool) (u : Row) (us : List Row) → Among u us → p u ≡ true → any_row p us ≡ true
any_found p u [] a h = absurd a
any_found p u (v ∷ vs) a h = elim a [ inl e ↦ or_left (p v) (any_row p vs) (rw e at h) | inr b ↦ or_right (p v) (any_row p vs) (any_found p u vs b h) ]

any_more : (p q : Row → Bool) (us : List Row) → ((u : Row) → p u ≡ true → q u ≡ true) → any_row p us ≡ true → any_row q us ≡ true
any_more p q [] e h = h
any_more p q (u ∷ us) e h = or_both (p u) (any_row p us) (q u) (any_row q us) (e u) (any_more p q us e) h

any_same : (p q : Row → Bool) (us : List Row) → ((u : Row) → p u ≡ q u) → any_row p us ≡ any_row q us
any_same p q [] e = refl
any_same p q (u ∷ us) e = let h = any_same p q us e in rw (e u, h) refl

pub storing_more : (k : Code) (p q : List Row → Bool) (rs : List Row) → ((us : List Row) → p us ≡ true → q us ≡ true) → some_storing k p rs ≡ true → some_storing k q rs ≡ true
storing_more k p q [] e h = e [] h
storing_more k p q (r ∷ rs) e h = any_more (λ u. some_storing k (λ us. p (u ∷ us)) rs) (λ u. some_storing k (λ us. q (u ∷ us)) rs) (k.forms r) (λ u. storing_more k (λ us. p (u ∷ us)) (λ us. q (u ∷ us)) rs (λ us. e (u ∷ us))) h

pub storing_same : (k : Code) (p q : List Row → Bool) (rs : List Row) → ((us : List Row) → p us ≡ q us) → some_storing k p rs ≡ some_storing k q rs
storing_same k p q [] e = e []
storing_same k p q (r ∷ rs) e = any_same (λ u. some_storing k (λ us. p (u ∷ us)) rs) (λ u. some_storing k (λ us. q (u ∷ us)) rs) (k.forms r) (λ u. storing_same k (λ us. p (u ∷ us)) (λ us. q (u ∷ us)) rs (λ us. e (u ∷ us)))

-- a particular way of storing the rows is some way
pub storing_is : (k : Code) (p : List Row → Bool) (us rs : List Row) → IsStoring k us rs → p us ≡ true → some_storing k p rs ≡ true
storing_is k p [] [] s h = h
storing_is k p [] (r ∷ rs) s h = absurd s
storing_is k p (u ∷ us) [] s h = absurd s
storing_is k p (u ∷ us) (r ∷ rs) s h = any_found (λ w. some_storing k (λ ws. p (w ∷ ws)) rs) u (k.forms r) s.0 (storing_is k (λ ws. p (u ∷ ws)) us rs s.1 h)

-- also with more rows after them
pub storing_before : (k : Code) (p : List Row → Bool) (us rs ss : List Row) → IsStoring k us rs → some_storing k (λ ws. p (us ++ ws)) ss ≡ true → some_storing k p (rs ++ ss) ≡ true
storing_before k p [] [] ss s h = h
storing_before k p [] (r ∷ rs) ss s h = absurd s
storing_before k p (u ∷ us) [] ss s h = absurd s
storing_before k p (u ∷ us) (r ∷ rs) ss s h = any_found (λ w. some_storing k (λ ws. p (w ∷ ws)) (rs ++ ss)) u (k.forms r) s.0 (storing_before k (λ ws. p (u ∷ ws)) us rs ss s.1 h)

-- each row has a form
pub record IsCode (k : Code) : Type 0 where
  pub form : Row → Row
  pub formed : (r : Row) → Among (form r) (k.forms r)

storing_all : (k : Code) (p : List Row → Bool) (rs : List Row) → IsCode k → ((us : List Row) → p us ≡ true) → some_storing k p rs ≡ true
storing_all k p [] c h = h []
storing_all k p (r ∷ rs) c h = any_found (λ u. some_storing k (λ us. p (u ∷ us)) rs) (c.form r) (k.forms r) (c.formed r) (storing_all k (λ us. p (c.form r ∷ us)) rs c (λ us. h (c.form r ∷ us)))

pub storing_extended : (k : Code) (p : List Row → Bool) (rs ss : List Row) → IsCode k → ((us ws : List Row) → p us ≡ true → p (us ++ ws) ≡ true) → some_storing k p rs ≡ true → some_storing k p (rs ++ ss) ≡ true
storing_extended k p [] ss c e h = storing_all k p ss c (λ us. e [] us h)
storing_extended k p (r ∷ rs) ss c e h = any_more (λ u. some_storing k (λ us. p (u ∷ us)) rs) (λ u. some_storing k (λ us. p (u ∷ us)) (rs ++ ss)) (k.forms r) (λ u. storing_extended k (λ us. p (u ∷ us)) rs ss c (λ us. e (u ∷ us))) h

-- the format

pub record SoundRecall (k : Code) (o : Format) (c : Content) : Type 0 where
  pub inner : IsSound o c
  pub reached : reaches k [] (o.rows c) ≡ true

pub recall_parts : (k : Code) (kin : Row → Row → Bool) (o : Format) {c : Content} → IsSound (recalled k kin o) c → SoundRecall k o c
recall_parts k kin o {c} s =
    let p = nothing_left (o.broken c) (unless (reaches k [] (o.rows c)) (fault 15 0)) s.accepted in
    record { inner = record { accepted = p.0 }; reached = unless_true (reaches k [] (o.rows c)) (fault 15 0) p.1 }

pub recall_sound : (k : Code) (kin : Row → Row → Bool) (o : Format) {c : Content} → SoundRecall k o c → IsSound (recalled k kin o) c
recall_sound k kin o {c} s = record {
  accepted = nothing_both (o.broken c) (unless (reaches k [] (o.rows c)) (fault 15 0)) s.inner.accepted (true_unless (reaches k [] (o.rows c)) (fault 15 0) s.reached);
}

recall_full : (k : Code) (kin : Row → Row → Bool) (o : Format) → IsLawful o → (c : Content) → IsSound (recalled k kin o) c → o.extent c (length (recall k [] (o.rows c))) ≡ lengths c
recall_full k kin o l c s = let n = length-recall k [] (o.rows c) in rw n (l.full c (recall_parts k kin o s).inner)

pub recall_lawful : (k : Code) (kin : Row → Row → Bool) (o : Format) → IsCode k → IsSame kin → IsLawful o → IsLawful (recalled k kin o)
recall_lawful k kin o c e l = record {
  full = recall_full k kin o l;
  same = e;
  kindred = e;
  related = λ r s h. h;
  more = λ x y n rs ss h. storing_extended k (o.refuses x y n) rs ss c (l.more x y n) h;
}

pub recall_storable : (k : Code) (kin : Row → Row → Bool) (o : Format) → IsStorable o → IsStorable (recalled k kin o)
recall_storable k kin o l = record {
  swift = l.swift;
  sized = l.sized;
  aligned = l.aligned;
  counted = λ c s. l.counted c (recall_parts k kin o s).inner;
  rebuilt = λ c rest s. l.rebuilt c rest (recall_parts k kin o s).inner;
  built = l.built;
}

-- the answer of a test that found no fault of the inner column
pub recall_fine : (k : Code) (kin : Row → Row → Bool) (o : Format) (c : Content) (at : ℕ) → None ≡ first (moved at (o.broken c)) → reaches k [] (o.rows c) ≡ true → None ≡ first (moved at ((recalled k kin o).broken c))
recall_fine k kin o c at h r =
    let e = nothing_moved at (o.broken c) (first_none (moved at (o.broken c)) (sym h)) in
    rw (e, r) refl

-- a fault of the inner column comes first
pub recall_fault : (k : Code) (kin : Row → Row → Bool) (o : Format) (c : Content) (at : ℕ) (z : Fault) → Some z ≡ first (moved at (o.broken c)) → Some z ≡ first (moved at ((recalled k kin o).broken c))
recall_fault k kin o c at z h =
    let m : moved at (o.broken c ++ unless (reaches k [] (o.rows c)) (fault 15 0)) ≡ moved at (o.broken c) ++ moved at (unless (reaches k [] (o.rows c)) (fault 15 0)) = map-append (moved_one at) (o.broken c) (unless (reaches k [] (o.rows c)) (fault 15 0)) in
    rw m (sym (first_found (moved at (o.broken c)) (moved at (unless (reaches k [] (o.rows c)) (fault 15 0))) z (sym h)))

pub recall_own : (k : Code) (kin : Row → Row → Bool) (o : Format) (c : Content) (at : ℕ) → None ≡ first (moved at (o.broken c)) → reaches k [] (o.rows c) ≡ false → Some (fault 15 at) ≡ first (moved at ((recalled k kin o).broken c))
recall_own k kin o c at h r =
    let e = nothing_moved at (o.broken c) (first_none (moved at (o.broken c)) (sym h)) in
    let n : at + 0 ≡ at = omega arith in
    rw (e, r, n) refl

-- changes

recall_keeps : (k : Code) (kin : Row → Row → Bool) (o : Format) {x y : Content} {n : ℕ} → Keeps o x y n → Keeps (recalled k kin o) x y n
recall_keeps k kin o {x} {y} g = record {
  extents = g.extents;
  limits = λ i l e rs. storing_same k (o.refuses e y i) (o.refuses e x i) rs (g.limits i l e);
}

pub recall_stayed : (k : Code) (kin : Row → Row → Bool) (o : Format) {x y : Content} → IsSound (recalled k kin o) x → Stayed o x y → Stayed (recalled k kin o) x y
recall_stayed k kin o {x} {y} s g =
    let p = recall_parts k kin o s in
    let n = length-recall k [] (o.rows x) in
    record {
      sound = recall_sound k kin o (record { inner = g.sound; reached = rw g.rows p.reached });
      rows = ap (recall k []) g.rows;
      lengths_same = g.lengths_same;
      kept = rw n (recall_keeps k kin o g.kept);
    }

pub recall_cut : (k : Code) (kin : Row → Row → Bool) (o : Format) {x y : Content} {n : ℕ} → IsSound (recalled k kin o) x → WasCut o x y n → WasCut (recalled k kin o) x y n
recall_cut k kin o {x} {y} {n} s g =
    let p = recall_parts k kin o s in
    record {
      sound = recall_sound k kin o (record { inner = g.sound; reached = rw g.rows (reaches-take k n [] (o.rows x) p.reached) });
      rows = rw g.rows (recall-take k n [] (o.rows x));
      lengths_cut = g.lengths_cut;
      kept = recall_keeps k kin o g.kept;
    }

-- Inner rows that represent each other have equal distances, and add values that are kin.
pub record ReadsAlike (k : Code) (kin alike : Row → Row → Bool) : Type 0 where
  pub back : (u v : Row) → alike u v ≡ true → k.back u ≡ k.back v
  pub value : (u v : Row) → alike u v ≡ true → all_alike kin (k.value u) (k.value v) ≡ true

recent_alike : (kin : Row → Row → Bool) → IsSame kin → (vs ws : List Row) (m : ℕ) → all_alike kin vs ws ≡ true → kin (recent vs m) (recent ws m) ≡ true
recent_alike kin e [] [] m h = e.reflexive unit
recent_alike kin e [] (w ∷ ws) m h = cc
recent_alike kin e (v ∷ vs) [] m h = cc
recent_alike kin e (v ∷ vs) (w ∷ ws) zero h = (and_parts (kin v w) (all_alike kin vs ws) h).0
recent_alike kin e (v ∷ vs) (w ∷ ws) (suc m) h = recent_alike kin e vs ws m (and_parts (kin v w) (all_alike kin vs ws) h).1

pub recall_alike : (k : Code) (kin alike : Row → Row → Bool) → IsSame kin → ReadsAlike k kin alike → (vs ws us ts : List Row) → all_alike kin vs ws ≡ true → all_alike alike us ts ≡ true → all_alike kin (recall k vs us) (recall k ws ts) ≡ true
recall_alike k kin alike e a vs ws [] [] h g = refl
recall_alike k kin alike e a vs ws [] (t ∷ ts) h g = cc
recall_alike k kin alike e a vs ws (u ∷ us) [] h g = cc
recall_alike k kin alike e a vs ws (u ∷ us) (t ∷ ts) h g =
    let p = and_parts (alike u t) (all_alike alike us ts) g in
    let q = all_alike-append kin (k.value u) (k.value t) vs ws (a.value u t p.0) h in
    let r = recent_alike kin e (k.value u ++ vs) (k.value t ++ ws) (k.back t) q in
    and_from _ _ (rw (a.back u t p.0) r) (recall_alike k kin alike e a (k.value u ++ vs) (k.value t ++ ws) us ts q p.1)

pub reaches_alike : (k : Code) (kin alike : Row → Row → Bool) → IsSame kin → ReadsAlike k kin alike → (vs ws us ts : List Row) → all_alike kin vs ws ≡ true → all_alike alike us ts ≡ true → reaches k ws ts ≡ true → reaches k vs us ≡ true
reaches_alike k kin alike e a vs ws [] [] h g r = refl
reaches_alike k kin alike e a vs ws [] (t ∷ ts) h g r = cc
reaches_alike k kin alike e a vs ws (u ∷ us) [] h g r = cc
reaches_alike k kin alike e a vs ws (u ∷ us) (t ∷ ts) h g r =
    let p = and_parts (alike u t) (all_alike alike us ts) g in
    let q = all_alike-append kin (k.value u) (k.value t) vs ws (a.value u t p.0) h in
    let n = alike_length kin (k.value u ++ vs) (k.value t ++ ws) q in
    let z = and_parts (nat_lt (k.back t) (length (k.value t ++ ws))) (reaches k (k.value t ++ ws) ts) r in
    and_from _ _ (rw (a.back u t p.0, n) z.0) (reaches_alike k kin alike e a (k.value u ++ vs) (k.value t ++ ws) us ts q p.1 z.1)

-- The inner column accepted rows that read as the added rows. `ts` is a way of storing these rows, and limits do not
-- distinguish it from `us`.
pub recall_took_as : (k : Code) (kin : Row → Row → Bool) (o : Format) {x y : Content} (us ts added : List Row) → IsSame kin → ReadsAlike k kin o.alike → IsSound (recalled k kin o) x → Took o x y us → ((e : Excess) (ws : List Row) → refuses_more o e x (us ++ ws) ≡ true → refuses_more o e x (ts ++ ws) ≡ true) → IsStoring k ts added → reaches k (latest k [] (o.rows x)) us ≡ true → all_alike kin (recall k (latest k [] (o.rows x)) us) added ≡ true → Took (recalled k kin o) x y added
recall_took_as k kin o {x} {y} us ts added e a s g i st r h =
    let p = recall_parts k kin o s in
    let vs = latest k [] (o.rows x) in
    let z = alike_all kin e vs in
    let n : length (recall k [] (o.rows x)) ≡ length (o.rows x) = length-recall k [] (o.rows x) in
    let m : length (recall k [] (o.rows y)) ≡ length (o.rows y) = length-recall k [] (o.rows y) in
    record {
      fresh = recall k vs g.fresh;
      grew = record {
        sound = recall_sound k kin o (record { inner = g.grew.sound; reached = rw g.grew.rows (reaches-append k [] (o.rows x) g.fresh p.reached (reaches_alike k kin o.alike e a vs vs g.fresh us z g.alike r)) });
        rows = rw g.grew.rows (recall-append k [] (o.rows x) g.fresh);
        kept = rw n (recall_keeps k kin o g.grew.kept);
      };
      alike = alike_on kin e (recall k vs g.fresh) (recall k vs us) added (recall_alike k kin o.alike e a vs vs g.fresh us z g.alike) h;
      adds = λ t rs q. rw n (storing_before k (o.refuses t x (length (o.rows x))) ts added rs st (storing_more k (o.refuses t y (length (o.rows y))) (λ ws. o.refuses t x (length (o.rows x)) (ts ++ ws)) rs (λ ws j. i t ws (g.adds t ws j)) (rw m at q)));
    }

pub recall_took : (k : Code) (kin : Row → Row → Bool) (o : Format) {x y : Content} (us added : List Row) → IsSame kin → ReadsAlike k kin o.alike → IsSound (recalled k kin o) x → Took o x y us → IsStoring k us added → reaches k (latest k [] (o.rows x)) us ≡ true → all_alike kin (recall k (latest k [] (o.rows x)) us) added ≡ true → Took (recalled k kin o) x y added
recall_took k kin o us added e a s g st r h = recall_took_as k kin o us us added e a s g (λ t ws j. j) st r h

pub recall_refused_as : (k : Code) (kin : Row → Row → Bool) (o : Format) {x y : Content} (us ts added : List Row) {error : GrowError} → IsSound (recalled k kin o) x → Refused o x y us error → ((e : Excess) → refuses_more o e x us ≡ true → refuses_more o e x ts ≡ true) → IsStoring k ts added → Refused (recalled k kin o) x y added error
recall_refused_as k kin o {x} {y} us ts added {error} s g i st =
    let n : length (recall k [] (o.rows x)) ≡ length (o.rows x) = length-recall k [] (o.rows x) in
    record {
      stayed = recall_stayed k kin o s g.stayed;
      cause = true_from o (recalled k kin o) x x us added error (λ e h. rw n (storing_is k (o.refuses e x (length (o.rows x))) ts added st (i e h))) g.cause;
    }

pub recall_refused : (k : Code) (kin : Row → Row → Bool) (o : Format) {x y : Content} (us added : List Row) {error : GrowError} → IsSound (recalled k kin o) x → Refused o x y us error → IsStoring k us added → Refused (recalled k kin o) x y added error
recall_refused k kin o us added s g st = recall_refused_as k kin o us us added s g (λ e h. h) st

-- A range from row 0 that is copied into a column without rows is unchanged.
pub recall_front : (k : Code) (kin : Row → Row → Bool) (o : Format) {x y : Content} (us ts added : List Row) (start : ℕ) → IsSame kin → ReadsAlike k kin o.alike → IsSound (recalled k kin o) x → recall k [] (o.rows x) ≡ [] → start ≡ 0 → Copied o x y start us → ((e : Excess) (ws : List Row) → refuses_more o e x (us ++ ws) ≡ true → refuses_more o e x (ts ++ ws) ≡ true) → IsStoring k ts added → reaches k [] us ≡ true → recall k [] us ≡ added → Copied (recalled k kin o) x y start added
recall_front k kin o {x} {y} us ts added start e a s h z g i st r l =
    let m : length (o.rows x) ≡ 0 = sym (length-recall k [] (o.rows x)) ∙ ap length h in
    let n : o.rows x ≡ [] = nil_from_length (o.rows x) m in
    record {
      took = recall_took_as k kin o us ts added e a s g.took i st (rw n r) (rw n (rw l (alike_all kin e added)));
      front = λ p q. ap (recall k []) (g.front n z) ∙ l;
    }

-- lists in which each row satisfies a predicate

abbrev pub Each : (Row → Type 0) → List Row → Type 0
Each P [] = Unit {0}
Each P (u ∷ us) = P u × Each P us

pub each_taken : (P : Row → Type 0) (n : ℕ) (us : List Row) → Each P us → Each P (take n us)
each_taken P zero us a = tt
each_taken P (suc n) [] a = tt
each_taken P (suc n) (u ∷ us) a = (a.0, each_taken P n us a.1)

pub each_dropped : (P : Row → Type 0) (n : ℕ) (us : List Row) → Each P us → Each P (drop n us)
each_dropped P zero us a = a
each_dropped P (suc n) [] a = tt
each_dropped P (suc n) (u ∷ us) a = each_dropped P n us a.1

-- the rows as which a range of inner rows reads, after the values before it
pub range_recalled : (k : Code) (n start : ℕ) (us : List Row) → recall k (latest k [] (take start us)) (take n (drop start us)) ≡ take n (drop start (recall k [] us))
range_recalled k n start us = recall-take k n (latest k [] (take start us)) (drop start us) ∙ ap (take n) (recall-drop k start [] us)

-- rows that were pushed one by one are a copy of their range
pub copied_rows : {f : Format} {x y : Content} (rs : List Row) (start i end : ℕ) → Took f x y (take (i - start) (drop start rs)) → i ≡ end → (f.rows x ≡ [] → start ≡ 0 → ⊥) → Copied f x y start (take (end - start) (drop start rs))
copied_rows rs start i end g e h = rw (← e) (record { took = g; front = λ p q. absurd (h p q) })

pub refused_rows : {f : Format} {x y m z : Content} {error : GrowError} (rs : List Row) (start i end : ℕ) (r : Row) → IsLawful f → IsSound f x → start ≤ i → i < end → slice_get rs i ≡ Some r → Took f x y (take (i - start) (drop start rs)) → Refused f y m (r ∷ []) error → WasCut f m z (length (f.rows x)) → Refused f x z (take (end - start) (drop start rs)) error
refused_rows rs start i end r l s a b h g k c = refused_more rs start i end r l a b h g k.cause (undone l s (grew_stayed g.grew k.stayed) c)

-- the precondition of removing rows again
pub rows_kept : {f : Format} {x y m : Content} (added ws : List Row) {error : GrowError} → Took f x y added → Refused f y m ws error → length (f.rows x) ≤ length (f.rows m)
rows_kept {f} {x} {y} {m} added ws g k =
    let n = ap length k.stayed.rows in
    let o = ap length g.grew.rows in
    omega (arith, n, o, length-append (f.rows x) g.fresh)

pub recall_nothing : (k : Code) (us : List Row) → length us ≡ 0 → recall k [] us ≡ []
recall_nothing k us e = ap (recall k []) (nil_from_length us e)

-- the rows up to the next one reach a value, if it does
pub reaches_next : (k : Code) (vs us : List Row) (i : ℕ) (u : Row) → slice_get us i ≡ Some u → k.back u < length (latest k vs (take (suc i) us)) → reaches k vs (take i us) ≡ true → reaches k vs (take (suc i) us) ≡ true
reaches_next k vs [] i u h l p = cc
reaches_next k vs (w ∷ us) zero u h l p =
    let e : w ≡ u = cc in
    and_from _ _ (lt-ltb (k.back w) (length (k.value w ++ vs)) (rw (← e) at l)) refl
reaches_next k vs (w ∷ us) (suc i) u h l p =
    let q = and_parts (nat_lt (k.back w) (length (k.value w ++ vs))) (reaches k (k.value w ++ vs) (take i us)) p in
    and_from _ _ q.0 (reaches_next k (k.value w ++ vs) us i u h l q.1)

not_true : (b : Bool) → (b ≡ true → ⊥) → false ≡ b
not_true true h = absurd (h refl)
not_true false h = refl

-- if it does not, not all rows do
pub reaches_not : (k : Code) (vs us : List Row) (i : ℕ) (u : Row) → slice_get us i ≡ Some u → length (latest k vs (take (suc i) us)) ≤ k.back u → false ≡ reaches k vs us
reaches_not k vs us i u h l = not_true (reaches k vs us) (λ p. let q = reaches_at k vs us i u p h in omega (arith, q, l))

-- no row of a range yet
pub took_no_row : {f : Format} {c : Content} (rs : List Row) (start : ℕ) → IsSound f c → Took f c c (take (start - start) (drop start rs))
took_no_row rs start s = let e : start - start ≡ 0 = omega arith in rw e (took_none s)
