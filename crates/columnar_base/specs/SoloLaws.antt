use Rattle.std.proofs.Common.{◌≡◌, ℕ, ◌+◌, Bool, true, List, [], ◌∷◌, ◌++◌, length, take, drop, refl, sym, ◌∙◌, ap, arith}
use Rattle.std.specs.Prelude.{slice_get, Some, Result, Ok, Err, OnOk, IfErr}
use Rattle.std.proofs.lemmas.List.{map-append, length-map, take-map, drop-map}
use Rattle.std.proofs.lemmas.Option.{slice_get-map}
use Rattle.std.proofs.lemmas.Bool.{and_parts, and_from}
use Rattle.columnar_base.specs.Row.{Row, solo, row_eq}
use Rattle.columnar_base.specs.AlikeLaws.{same_pulled, same_both, row_eq_same}
use Rattle.columnar_base.specs.Format.{Format, Content, IsSound, IsLawful, IsStorable, IsSame, Fits, all_alike, Excess, refuses_more}
use Rattle.columnar_base.specs.Change.{Keeps, Stayed, WasCut, Took, Copied, Refused}
use Rattle.columnar_base.specs.ChangeLaws.{true_from}
use Rattle.columnar_base.specs.declared.fault.GrowError.{GrowError}
use Rattle.columnar_base.specs.Solos.{only_of, bare_solo, solos, onlies, solo_alike, solo_format}

-- the tuples of rows hold these rows
pub onlies-solos : (rs : List Row) → onlies (solos rs) ≡ rs
onlies-solos [] = refl
onlies-solos (r ∷ rs) = ap (λ t. r ∷ t) (onlies-solos rs)

pub solos_alike : (a : Row → Row → Bool) (rs ss : List Row) → all_alike a rs ss ≡ true → all_alike (solo_alike a) (solos rs) (solos ss) ≡ true
solos_alike a [] [] h = refl
solos_alike a [] (s ∷ ss) h = cc
solos_alike a (r ∷ rs) [] h = cc
solos_alike a (r ∷ rs) (s ∷ ss) h =
    let p = and_parts (a r s) (all_alike a rs ss) h in
    and_from _ _ p.0 (solos_alike a rs ss p.1)

-- the tuple is sound if the column is
pub solo_sound : (a : Format) {c : Content} → IsSound a c → IsSound (solo_format a) c
solo_sound a s = record { accepted = s.accepted }

pub solo_part : (a : Format) {c : Content} → IsSound (solo_format a) c → IsSound a c
solo_part a s = record { accepted = s.accepted }

pub solo_length : (a : Format) (c : Content) → length (solos (a.rows c)) ≡ length (a.rows c)
solo_length a c = length-map (a.rows c) solo

-- row i
pub solo_row : (i : ℕ) (rs : List Row) (r : Row) → slice_get rs i ≡ Some r → slice_get (solos rs) i ≡ Some (solo r)
solo_row i rs r h = slice_get-map solo rs i ∙ (rw h refl)

-- tuples are refused if and only if the rows in them are
solo_refuses : (a : Format) (e : Excess) (c : Content) (rs : List Row) → refuses_more (solo_format a) e c rs ≡ refuses_more a e c (onlies rs)
solo_refuses a e c rs = ap (λ n. a.refuses e c n (onlies rs)) (solo_length a c)

solo_same : (a : Row → Row → Bool) → IsSame a → IsSame (solo_alike a)
solo_same a p = same_both (λ r s. row_eq (bare_solo r) (bare_solo s)) (λ r s. a (only_of r) (only_of s)) (same_pulled row_eq bare_solo row_eq_same) (same_pulled a only_of p)

solo_related : (a b : Row → Row → Bool) → ((r s : Row) → a r s ≡ true → b r s ≡ true) → (r s : Row) → solo_alike a r s ≡ true → solo_alike b r s ≡ true
solo_related a b p r s h =
    let u = and_parts (row_eq (bare_solo r) (bare_solo s)) (a (only_of r) (only_of s)) h in
    and_from _ _ u.0 (p (only_of r) (only_of s) u.1)

pub solo_lawful : (a : Format) → IsLawful a → IsLawful (solo_format a)
solo_lawful a l = record {
  full = λ c s. ap (λ n. a.extent c n) (solo_length a c) ∙ l.full c (solo_part a s);
  same = solo_same a.alike l.same;
  kindred = solo_same a.kin l.kindred;
  related = solo_related a.alike a.kin l.related;
  more = λ e c n rs ss h. rw (map-append only_of rs ss) (l.more e c n (onlies rs) (onlies ss) h);
}

pub solo_storable : (a : Format) → IsStorable a → IsStorable (solo_format a)
solo_storable a l = record {
  swift = l.swift;
  sized = l.sized;
  aligned = l.aligned;
  counted = λ c s. l.counted c (solo_part a s);
  rebuilt = λ c rest s. l.rebuilt c rest (solo_part a s);
  built = l.built;
}

-- equal formats of the part make equal formats
pub same_solo : {a b : Format} → a ≡ b → solo_format a ≡ solo_format b
same_solo p = rw p refl

-- the slices of the part fit if those of the tuple do
pub solo_fits : (a : Format) (o : ℕ) (ss : List (List ℕ)) → Fits (solo_format a) o ss → Fits a o ss
solo_fits a o ss h = record { room = h.room; sound = solo_part a h.sound }

-- changes

solo_keeps : (a : Format) {x y : Content} (n m : ℕ) → n ≡ m → Keeps a x y m → Keeps (solo_format a) x y n
solo_keeps a n m e k = record { extents = λ i l. k.extents i (omega arith); limits = λ i l x rs. k.limits i (omega arith) x (onlies rs) }

solo_kept : (a : Format) {x y : Content} → Keeps a x y (length (a.rows x)) → Keeps (solo_format a) x y (length (solos (a.rows x)))
solo_kept a {x} {y} k = solo_keeps a (length (solos (a.rows x))) (length (a.rows x)) (solo_length a x) k

pub solo_stayed : (a : Format) {x y : Content} → Stayed a x y → Stayed (solo_format a) x y
solo_stayed a g = record { sound = solo_sound a g.sound; rows = ap solos g.rows; lengths_same = g.lengths_same; kept = solo_kept a g.kept }

pub solo_cut : (a : Format) {x y : Content} (n : ℕ) → WasCut a x y n → WasCut (solo_format a) x y n
solo_cut a {x} {y} n g = record {
  sound = solo_sound a g.sound;
  rows = ap solos g.rows ∙ sym (take-map solo n (a.rows x));
  lengths_cut = g.lengths_cut;
  kept = solo_keeps a n n refl g.kept;
}

pub solo_took : (a : Format) {x y : Content} {rs : List Row} → Took a x y rs → Took (solo_format a) x y (solos rs)
solo_took a {x} {y} {rs} g = record {
  fresh = solos g.fresh;
  grew = record { sound = solo_sound a g.grew.sound; rows = ap solos g.grew.rows ∙ map-append solo (a.rows x) g.fresh; kept = solo_kept a g.grew.kept };
  alike = solos_alike a.alike g.fresh rs g.alike;
  adds = λ e ss h.
      let u : onlies (solos rs ++ ss) ≡ rs ++ onlies ss = map-append only_of (solos rs) ss ∙ ap (λ t. t ++ onlies ss) (onlies-solos rs) in
      solo_refuses a e x (solos rs ++ ss) ∙ (rw u (g.adds e (onlies ss) (sym (solo_refuses a e y ss) ∙ h)));
}

pub solo_refused : (a : Format) {x y : Content} (rs : List Row) {error : GrowError} → Refused a x y rs error → Refused (solo_format a) x y (solos rs) error
solo_refused a {x} {y} rs {error} g = record {
  stayed = solo_stayed a g.stayed;
  cause = true_from a (solo_format a) x x rs (solos rs) error (λ e h. solo_refuses a e x (solos rs) ∙ (rw (onlies-solos rs) h)) g.cause;
}

solos_none : (rs : List Row) → solos rs ≡ [] → rs ≡ []
solos_none [] h = refl
solos_none (r ∷ rs) h = cc

-- a range of the rows of another column
pub solo_piece : (start n : ℕ) (rs : List Row) → take n (drop start (solos rs)) ≡ solos (take n (drop start rs))
solo_piece start n rs = rw (drop-map solo start rs) (take-map solo n (drop start rs))

pub solo_copied : (a : Format) {x y : Content} (start : ℕ) {rs : List Row} → Copied a x y start rs → Copied (solo_format a) x y start (solos rs)
solo_copied a {x} {y} start g = record { took = solo_took a g.took; front = λ n z. ap solos (g.front (solos_none (a.rows x) n) z) }

-- the result of a call over the part, stated for the tuple
pub solo_took_on_ok : {T : Type 0} (a : Format) (x y : Content) (rs : List Row) (r : Result T GrowError) → OnOk r (Took a x y rs) → OnOk r (Took (solo_format a) x y (solos rs))
solo_took_on_ok a x y rs (Ok u) h = solo_took a h
solo_took_on_ok a x y rs (Err e) h = tt

pub solo_refused_if_err : {T : Type 0} (a : Format) (x y : Content) (rs : List Row) (r : Result T GrowError) → IfErr r (λ e. Refused a x y rs e) → IfErr r (λ e. Refused (solo_format a) x y (solos rs) e)
solo_refused_if_err a x y rs (Ok u) h = tt
solo_refused_if_err a x y rs (Err e) h = solo_refused a rs h

pub solo_copied_on_ok : {T : Type 0} (a : Format) (x y : Content) (start n : ℕ) (rs : List Row) (r : Result T GrowError) → OnOk r (Copied a x y start (take n (drop start rs))) → OnOk r (Copied (solo_format a) x y start (take n (drop start (solos rs))))
solo_copied_on_ok a x y start n rs (Ok u) h = rw (solo_piece start n rs) (solo_copied a start h)
solo_copied_on_ok a x y start n rs (Err e) h = tt

pub solo_piece_refused : {T : Type 0} (a : Format) (x y : Content) (start n : ℕ) (rs : List Row) (r : Result T GrowError) → IfErr r (λ e. Refused a x y (take n (drop start rs)) e) → IfErr r (λ e. Refused (solo_format a) x y (take n (drop start (solos rs))) e)
solo_piece_refused a x y start n rs (Ok u) h = tt
solo_piece_refused a x y start n rs (Err e) h = rw (solo_piece start n rs) (solo_refused a (take n (drop start rs)) h)
