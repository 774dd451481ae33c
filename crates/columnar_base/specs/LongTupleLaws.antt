use Rattle.std.proofs.Common.{◌≡◌, ℕ, ◌<◌, ◌≤◌, true, List, [], ◌∷◌, length, refl, sym, ◌∙◌, ap, arith}
use Rattle.std.specs.Prelude.{nat_eq, Result, Ok, Err, IfErr}
use Rattle.std.proofs.lemmas.Bool.{and_parts, and_from, eqb-true, eq-eqb}
use Rattle.columnar_base.specs.Row.{Row}
use Rattle.columnar_base.specs.Format.{Format, Content, slice, both, part, plain, Fault, two_broken, IsSound, IsLawful, IsStorable, Fits}
use Rattle.columnar_base.specs.Change.{Keeps, Stayed, WasCut, Took, Copied, Refused}
use Rattle.columnar_base.specs.ChangeLaws.{true_from, unchanged}
use Rattle.columnar_base.specs.TwoParts.{TwoParts}
use Rattle.columnar_base.specs.TwoPartsLaws.{two_parts, two_sound}
use Rattle.columnar_base.specs.declared.fault.GrowError.{GrowError}
use Rattle.columnar_base.specs.Tuples.{tuples, pair_format}
use Rattle.columnar_base.specs.TupleLaws.{pair_parts, pair_sound, pair_stayed, pair_cut, length-tuples}
use Rattle.columnar_base.specs.LongTuples.{under, nested, sides, are_level, tuple_level, tuple_format, PartOf, Parts, PartsStayed, PartsCut}

-- the same columns under other rules

-- the same contents break no rule
pub record SameSound (broken : Content → List Fault) (f : Format) : Type 0 where
  pub there : (c : Content) → IsSound f c → IsSound (under broken f) c
  pub back : (c : Content) → IsSound (under broken f) c → IsSound f c

pub under_lawful : {broken : Content → List Fault} {f : Format} → SameSound broken f → IsLawful f → IsLawful (under broken f)
under_lawful {broken} {f} e l = record {
  full = λ c s. l.full c (e.back c s);
  same = l.same;
  kindred = l.kindred;
  related = l.related;
  more = l.more;
}

pub under_storable : {broken : Content → List Fault} {f : Format} → SameSound broken f → IsStorable f → IsStorable (under broken f)
under_storable {broken} {f} e l = record {
  swift = l.swift;
  sized = l.sized;
  aligned = l.aligned;
  counted = λ c s. l.counted c (e.back c s);
  rebuilt = λ c rest s. l.rebuilt c rest (e.back c s);
  built = l.built;
}

pub under_keeps : {broken : Content → List Fault} {f : Format} {x y : Content} {n : ℕ} → Keeps f x y n → Keeps (under broken f) x y n
under_keeps k = record { extents = k.extents; limits = k.limits }

pub under_stayed : {broken : Content → List Fault} {f : Format} {x y : Content} → SameSound broken f → Stayed f x y → Stayed (under broken f) x y
under_stayed {broken} {f} {x} {y} e g = record { sound = e.there y g.sound; rows = g.rows; lengths_same = g.lengths_same; kept = under_keeps g.kept }

pub under_cut : {broken : Content → List Fault} {f : Format} {x y : Content} {n : ℕ} → SameSound broken f → WasCut f x y n → WasCut (under broken f) x y n
under_cut {broken} {f} {x} {y} e g = record { sound = e.there y g.sound; rows = g.rows; lengths_cut = g.lengths_cut; kept = under_keeps g.kept }

pub under_took : {broken : Content → List Fault} {f : Format} {x y : Content} {added : List Row} → SameSound broken f → Took f x y added → Took (under broken f) x y added
under_took {broken} {f} {x} {y} e g = record {
  fresh = g.fresh;
  grew = record { sound = e.there y g.grew.sound; rows = g.grew.rows; kept = under_keeps g.grew.kept };
  alike = g.alike;
  adds = g.adds;
}

pub under_copied : {broken : Content → List Fault} {f : Format} {x y : Content} {start : ℕ} {added : List Row} → SameSound broken f → Copied f x y start added → Copied (under broken f) x y start added
under_copied e g = record { took = under_took e g.took; front = g.front }

pub under_refused : {broken : Content → List Fault} {f : Format} {x y : Content} {added : List Row} {error : GrowError} → SameSound broken f → Refused f x y added error → Refused (under broken f) x y added error
under_refused {broken} {f} {x} {y} {added} {error} e g = record {
  stayed = under_stayed e g.stayed;
  cause = true_from f (under broken f) x x added added error (λ k h. h) g.cause;
}

-- tuples as nested pairs

pub sides_two : (a b : Format) (fs : List Format) → TwoParts (sides a (b ∷ fs)) a (sides b fs) (λ x y. true) 0
sides_two a b [] = record { count = refl; sizes = refl; aligns = refl; build = λ ss. refl; broken = λ c. refl }
sides_two a b (g ∷ fs) = record { count = refl; sizes = refl; aligns = refl; build = λ ss. refl; broken = λ c. refl }

pub tuple_two : (a b : Format) (fs : List Format) → TwoParts (tuple_format a b fs) a (sides b fs) (tuple_level a b fs) 10
tuple_two a b [] = record { count = refl; sizes = refl; aligns = refl; build = λ ss. refl; broken = λ c. refl }
tuple_two a b (g ∷ fs) = record { count = refl; sizes = refl; aligns = refl; build = λ ss. refl; broken = λ c. refl }

-- a tuple of two parts is the pair
pub tuple_of_two : (a b : Format) → tuple_format a b [] ≡ pair_format a b
tuple_of_two a b = refl

-- if no part breaks a rule and all have n rows, the nest breaks no rule
pub sides_nested : (a : Format) (fs : List Format) (c : Content) (n : ℕ) → IsSound (sides a fs) c → are_level a fs n c ≡ true → PartOf (nested a fs) c n
sides_nested a [] c n s h = record { sound = s; level = sym (eqb-true n (length (a.rows c)) h) }
sides_nested a (b ∷ fs) (both x y) n s h =
    let p = two_parts (sides_two a b fs) x y s in
    let q = and_parts (nat_eq n (length (a.rows x))) (are_level b fs n y) h in
    let r = sides_nested b fs y n p.right q.1 in
    let e = eqb-true n (length (a.rows x)) q.0 in
    let l : length (a.rows x) ≡ length ((nested b fs).rows y) = sym e ∙ sym r.level in
    record {
      sound = pair_sound a (nested b fs) (record { left = p.left; right = r.sound; level = l });
      level = length-tuples (a.rows x) ((nested b fs).rows y) l ∙ sym e;
    }
sides_nested a (b ∷ fs) (slice bs) n s h = cc
sides_nested a (b ∷ fs) (part l u x) n s h = cc
sides_nested a (b ∷ fs) (plain rs) n s h = cc

-- the converse
pub record SidesOf (a : Format) (fs : List Format) (c : Content) (n : ℕ) : Type 0 where
  pub sound : IsSound (sides a fs) c
  pub level : are_level a fs n c ≡ true
  pub parts : Parts a fs c n

pub nested_sides : (a : Format) (fs : List Format) (c : Content) (n : ℕ) → IsSound (nested a fs) c → length ((nested a fs).rows c) ≡ n → SidesOf a fs c n
nested_sides a [] c n s l = record { sound = s; level = eq-eqb n (length (a.rows c)) (sym l); parts = record { sound = s; level = l } }
nested_sides a (b ∷ fs) (both x y) n s l =
    let p = pair_parts a (nested b fs) s in
    let m : length (a.rows x) ≡ n = sym (length-tuples (a.rows x) ((nested b fs).rows y) p.level) ∙ l in
    let r = nested_sides b fs y n p.right (sym p.level ∙ m) in
    record {
      sound = two_sound (sides_two a b fs) x y (record { left = p.left; right = r.sound; own = refl });
      level = and_from _ _ (eq-eqb n (length (a.rows x)) (sym m)) r.level;
      parts = (record { sound = p.left; level = m }, r.parts);
    }
nested_sides a (b ∷ fs) (slice bs) n s l = cc
nested_sides a (b ∷ fs) (part l u x) n s k = cc
nested_sides a (b ∷ fs) (plain rs) n s l = cc

tuple_there : (a b : Format) (fs : List Format) (c : Content) → IsSound (nested a (b ∷ fs)) c → IsSound (tuple_format a b fs) c
tuple_there a b fs (both x y) s =
    let p = pair_parts a (nested b fs) s in
    let r = nested_sides b fs y (length (a.rows x)) p.right (sym p.level) in
    two_sound (tuple_two a b fs) x y (record { left = p.left; right = r.sound; own = r.level })
tuple_there a b fs (slice bs) s = cc
tuple_there a b fs (part l u x) s = cc
tuple_there a b fs (plain rs) s = cc

tuple_back : (a b : Format) (fs : List Format) (c : Content) → IsSound (tuple_format a b fs) c → IsSound (nested a (b ∷ fs)) c
tuple_back a b fs (both x y) s =
    let p = two_parts (tuple_two a b fs) x y s in
    let r = sides_nested b fs y (length (a.rows x)) p.right p.own in
    pair_sound a (nested b fs) (record { left = p.left; right = r.sound; level = sym r.level })
tuple_back a b fs (slice bs) s = cc
tuple_back a b fs (part l u x) s = cc
tuple_back a b fs (plain rs) s = cc

-- So all laws of nested pairs are laws of the tuple.
pub tuple_same : (a b : Format) (fs : List Format) → SameSound (two_broken a (sides b fs) (tuple_level a b fs) 10) (nested a (b ∷ fs))
tuple_same a b fs = record { there = tuple_there a b fs; back = tuple_back a b fs }

pub tuple_lawful : (a b : Format) (fs : List Format) → IsLawful (nested a (b ∷ fs)) → IsLawful (tuple_format a b fs)
tuple_lawful a b fs l = under_lawful (tuple_same a b fs) l

pub tuple_storable : (a b : Format) (fs : List Format) → IsStorable (nested a (b ∷ fs)) → IsStorable (tuple_format a b fs)
tuple_storable a b fs l = under_storable (tuple_same a b fs) l

-- equal formats of parts make equal formats
pub same_parts : {a a' : Format} {fs fs' : List Format} → a ≡ a' → fs ≡ fs' → a ∷ fs ≡ a' ∷ fs'
same_parts p q = rw (p, q) refl

pub same_tuple : {a a' b b' : Format} {fs fs' : List Format} → a ≡ a' → b ≡ b' → fs ≡ fs' → tuple_format a b fs ≡ tuple_format a' b' fs'
same_tuple p q r = rw (p, q, r) refl

-- the parts of a tuple, each with as many rows as the tuple
pub tuple_parts : (a b : Format) (fs : List Format) {x y : Content} → IsSound (tuple_format a b fs) (both x y) → Parts a (b ∷ fs) (both x y) (length (tuples (a.rows x) ((nested b fs).rows y)))
tuple_parts a b fs {x} {y} s = (nested_sides a (b ∷ fs) (both x y) (length (tuples (a.rows x) ((nested b fs).rows y))) (tuple_back a b fs (both x y) s) refl).parts

-- a row of the tuple is a row of each part
pub within : {f : Format} {c : Content} {n i : ℕ} → PartOf f c n → i < n → i < length (f.rows c)
within p l = omega (arith, p.level, l)

pub up_to : {f : Format} {c : Content} {n i : ℕ} → PartOf f c n → i ≤ n → i ≤ length (f.rows c)
up_to p l = omega (arith, p.level, l)

-- sound parts with equally many rows make a sound tuple
nested_of : (a : Format) (fs : List Format) (c : Content) (n : ℕ) → Parts a fs c n → PartOf (nested a fs) c n
nested_of a [] c n p = p
nested_of a (b ∷ fs) (both x y) n p =
    let r = nested_of b fs y n p.1 in
    let l : length (a.rows x) ≡ length ((nested b fs).rows y) = p.0.level ∙ sym r.level in
    record {
      sound = pair_sound a (nested b fs) (record { left = p.0.sound; right = r.sound; level = l });
      level = length-tuples (a.rows x) ((nested b fs).rows y) l ∙ p.0.level;
    }
nested_of a (b ∷ fs) (slice bs) n p = absurd p
nested_of a (b ∷ fs) (part l u x) n p = absurd p
nested_of a (b ∷ fs) (plain rs) n p = absurd p

pub tuple_sound : (a b : Format) (fs : List Format) {x y : Content} (n : ℕ) → Parts a (b ∷ fs) (both x y) n → IsSound (tuple_format a b fs) (both x y)
tuple_sound a b fs {x} {y} n p = tuple_there a b fs (both x y) (nested_of a (b ∷ fs) (both x y) n p).sound

-- a part without rows
pub no_rows : {f : Format} {c : Content} → IsSound f c → f.rows c ≡ [] → PartOf f c 0
no_rows s e = record { sound = s; level = ap length e }

-- changes

-- no call touched the parts
parts_unchanged : (a : Format) (fs : List Format) (c : Content) (n : ℕ) → Parts a fs c n → PartsStayed a fs c c
parts_unchanged a [] c n p = unchanged p.sound
parts_unchanged a (b ∷ fs) (both x y) n p = (unchanged p.0.sound, parts_unchanged b fs y n p.1)
parts_unchanged a (b ∷ fs) (slice bs) n p = absurd p
parts_unchanged a (b ∷ fs) (part l u x) n p = absurd p
parts_unchanged a (b ∷ fs) (plain rs) n p = absurd p

nested_stayed : (a : Format) (fs : List Format) (c d : Content) → IsSound (nested a fs) c → PartsStayed a fs c d → Stayed (nested a fs) c d
nested_stayed a [] c d s p = p
nested_stayed a (b ∷ fs) (both x y) (both v w) s p = pair_stayed a (nested b fs) s p.0 (nested_stayed b fs y w (pair_parts a (nested b fs) s).right p.1)
nested_stayed a (b ∷ fs) _ _ s p = absurd p

-- no part has changed yet
pub tuple_unchanged : (a b : Format) (fs : List Format) {x y : Content} → IsSound (tuple_format a b fs) (both x y) → PartsStayed a (b ∷ fs) (both x y) (both x y)
tuple_unchanged a b fs {x} {y} s = parts_unchanged a (b ∷ fs) (both x y) (length (tuples (a.rows x) ((nested b fs).rows y))) (tuple_parts a b fs s)

pub tuple_stayed : (a b : Format) (fs : List Format) {x y v w : Content} → IsSound (tuple_format a b fs) (both x y) → PartsStayed a (b ∷ fs) (both x y) (both v w) → Stayed (tuple_format a b fs) (both x y) (both v w)
tuple_stayed a b fs {x} {y} {v} {w} s p = under_stayed (tuple_same a b fs) (nested_stayed a (b ∷ fs) (both x y) (both v w) (tuple_back a b fs (both x y) s) p)

nested_cut : (a : Format) (fs : List Format) (c d : Content) (n : ℕ) → IsSound (nested a fs) c → PartsCut a fs c d n → WasCut (nested a fs) c d n
nested_cut a [] c d n s p = p
nested_cut a (b ∷ fs) (both x y) (both v w) n s p = pair_cut a (nested b fs) s p.0 (nested_cut b fs y w n (pair_parts a (nested b fs) s).right p.1)
nested_cut a (b ∷ fs) _ _ n s p = absurd p

pub tuple_cut : (a b : Format) (fs : List Format) {x y v w : Content} (n : ℕ) → IsSound (tuple_format a b fs) (both x y) → PartsCut a (b ∷ fs) (both x y) (both v w) n → WasCut (tuple_format a b fs) (both x y) (both v w) n
tuple_cut a b fs {x} {y} {v} {w} n s p = under_cut (tuple_same a b fs) (nested_cut a (b ∷ fs) (both x y) (both v w) n (tuple_back a b fs (both x y) s) p)

-- the refusal of a call over the parts, stated for the tuple
pub refused_if_err : {T : Type 0} (a b : Format) (fs : List Format) (x y : Content) (rs : List Row) (r : Result T GrowError) → IfErr r (λ e. Refused (nested a (b ∷ fs)) x y rs e) → IfErr r (λ e. Refused (tuple_format a b fs) x y rs e)
refused_if_err a b fs x y rs (Ok u) h = tt
refused_if_err a b fs x y rs (Err e) h = under_refused (tuple_same a b fs) h

-- bytes

-- the slices of the nest fit if those of the tuple do
pub tuple_fits : (a b : Format) (fs : List Format) (o : ℕ) (ss : List (List ℕ)) → Fits (tuple_format a b fs) o ss → Fits (nested a (b ∷ fs)) o ss
tuple_fits a b fs o ss h = record { room = h.room; sound = (tuple_same a b fs).back _ h.sound }
