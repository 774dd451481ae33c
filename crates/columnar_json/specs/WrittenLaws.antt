-- Texts that are appended one after the other.
use Rattle.std.proofs.Common.{ℕ, List, [], ◌∷◌, ◌++◌, ◌≡◌, refl, sym, ◌∙◌, ap, subst, append_assoc, append-nil}
use Rattle.std.specs.Prelude.{Option, None, Some, option_map, Result, Ok, Err, IsErrAnd}
use Rattle.columnar_base.specs.ChangeLaws.{passed_on}
use Rattle.columnar_json.specs.Json.{between, first_flaw}
use Rattle.columnar_json.specs.Pieces.{Appended, Piece, Spells, bytes, double, joined, plain, single}
use Rattle.columnar_json.specs.Written.{Begins, IsFirstFlaw, Wrote, WroteRow}
use Rattle.columnar_json.specs.declared.unwritten.Unwritten.{Unwritten}
use Rattle.columnar_json.specs.declared.unwritten.Unwritten.TheVariants.{Memory, NoRow, NotText, WrongLength}

first_more : (fs gs : List Unwritten) (e : Unwritten) → first_flaw fs ≡ Some e → first_flaw (fs ++ gs) ≡ Some e
first_more [] gs e h = cc
first_more (f ∷ fs) gs e h = h

pub flaw_more : (fs gs : List Unwritten) (e : Unwritten) → IsFirstFlaw fs e → IsFirstFlaw (fs ++ gs) e
flaw_more fs gs Memory h = tt
flaw_more fs gs NoRow h = h
flaw_more fs gs NotText h = first_more fs gs NotText h
flaw_more fs gs WrongLength h = first_more fs gs WrongLength h

-- the first of two texts was appended
pub goes_on : (old mid new a b : List ℕ) (fs gs : List Unwritten) (r : Result (Unit {0}) Unwritten) → Wrote old mid a fs (Ok tt) → Wrote mid new b gs r → Wrote old new (a ++ b) (fs ++ gs) r
goes_on old mid new a b fs gs (Ok u) h k = (k.0 ∙ (ap (λ z. z ++ b) h.0 ∙ append_assoc old a b), rw (h.1) k.1)
goes_on old mid new a b fs gs (Err e) h k = (record { more = a ++ k.0.more; grown = k.0.grown ∙ (ap (λ z. z ++ k.0.more) h.0 ∙ append_assoc old a k.0.more) }, rw (h.1) k.1)

-- ---- pieces

pub plain_spells : (bs : List ℕ) → Spells (plain bs) bs
plain_spells [] = refl
plain_spells (b ∷ bs) = (b ∷ bs, [], (sym (append-nil (b ∷ bs)), (refl, refl)))

pub spells_both : (ps qs : List Piece) (t u : List ℕ) → Spells ps t → Spells qs u → Spells (ps ++ qs) (t ++ u)
spells_both [] qs t u h k = rw h k
spells_both (p ∷ ps) qs t u h k =
    (h.0, h.1 ++ u, (ap (λ z. z ++ u) h.2.0 ∙ append_assoc h.0 h.1 u, (h.2.1.0, spells_both ps qs h.1 u h.2.1.1 k)))

some_same : (t u : List ℕ) → Some t ≡ Some u → t ≡ u
some_same t u e = cc

more_joined : (o : Option (List ℕ)) (bs t : List ℕ) → option_map (λ z. bs ++ z) o ≡ Some t → (u : List ℕ) × ((o ≡ Some u) × (t ≡ bs ++ u))
more_joined None bs t e = absurd (cc (e))
more_joined (Some u) bs t e = (u, (refl, sym (some_same (bs ++ u) t e)))

-- pieces without floats have no other text
pub one_text : (ps : List Piece) (t u : List ℕ) → joined ps ≡ Some t → Spells ps u → u ≡ t
one_text [] t u e h = h ∙ some_same [] t e
one_text (bytes bs ∷ ps) t u e h =
    let m = more_joined (joined ps) bs t e in
    h.2.0 ∙ (rw (h.2.1.0, one_text ps m.0 h.1 m.1.0 h.2.1.1) (sym m.1.1))
one_text (single x ∷ ps) t u e h = absurd (cc (e))
one_text (double x ∷ ps) t u e h = absurd (cc (e))

pub appended_plain : (old new bs : List ℕ) → new ≡ old ++ bs → Appended old new (plain bs)
appended_plain old new bs h = (bs, (h, plain_spells bs))

pub appended_both : (old mid new : List ℕ) (ps qs : List Piece) → Appended old mid ps → Appended mid new qs → Appended old new (ps ++ qs)
appended_both old mid new ps qs h k = (h.0 ++ k.0, (k.1.0 ∙ (ap (λ z. z ++ k.0) h.1.0 ∙ append_assoc old h.0 k.0), spells_both ps qs h.0 k.0 h.1.1 k.1.1))

-- bytes were appended
pub wrote_plain : (old new bs : List ℕ) (fs : List Unwritten) (r : Result (Unit {0}) Unwritten) → Wrote old new bs fs r → WroteRow old new (plain bs) fs r
wrote_plain old new bs fs (Ok u) h = (appended_plain old new bs h.0, h.1)
wrote_plain old new bs fs (Err e) h = h

-- the first of two rows was appended
pub row_goes_on : (old mid new : List ℕ) (ps qs : List Piece) (fs gs : List Unwritten) (r : Result (Unit {0}) Unwritten) → WroteRow old mid ps fs (Ok tt) → WroteRow mid new qs gs r → WroteRow old new (ps ++ qs) (fs ++ gs) r
row_goes_on old mid new ps qs fs gs (Ok u) h k = (appended_both old mid new ps qs h.0 k.0, rw (h.1) k.1)
row_goes_on old mid new ps qs fs gs (Err e) h k =
    let t = h.0.0 in
    (record { more = t ++ k.0.more; grown = k.0.grown ∙ (ap (λ z. z ++ k.0.more) h.0.1.0 ∙ append_assoc old t k.0.more) }, rw (h.1) k.1)

-- a part of a row was not appended
pub row_failed : (old new : List ℕ) (ps qs : List Piece) (fs gs : List Unwritten) (e : Unwritten) → WroteRow old new ps fs (Err e) → WroteRow old new qs (fs ++ gs) (Err e)
row_failed old new ps qs fs gs e h = (h.0, flaw_more fs gs e h.1)

-- a row between two texts
pub between_wrote : (old first second new a : List ℕ) (ps : List Piece) (z : List ℕ) (fs : List Unwritten) (r : Result (Unit {0}) Unwritten) → Wrote old first a [] (Ok tt) → WroteRow first second ps fs (Ok tt) → Wrote second new z [] r → WroteRow old new (between a z ps) fs r
between_wrote old first second new a ps z fs r p q k = row_goes_on old first new (plain a) (ps ++ plain z) [] fs r (wrote_plain old first a [] (Ok tt) p) (subst (λ (gs : List Unwritten). WroteRow first new (ps ++ plain z) gs r) (append-nil fs) (row_goes_on first second new ps (plain z) fs [] r q (wrote_plain second new z [] r k)))

pub between_failed : (old first new a : List ℕ) (ps : List Piece) (z : List ℕ) (fs : List Unwritten) (e : Unwritten) → Wrote old first a [] (Ok tt) → WroteRow first new ps fs (Err e) → WroteRow old new (between a z ps) fs (Err e)
between_failed old first new a ps z fs e p q = row_goes_on old first new (plain a) (ps ++ plain z) [] fs (Err e) (wrote_plain old first a [] (Ok tt) p) q

-- ---- failures

-- the exit of a `?`
pub passed : (old new text : List ℕ) (flaws : List Unwritten) (e : Unwritten) (r : Result (Unit {0}) Unwritten) → IsErrAnd r (λ y. y ≡ e) → Wrote old new text flaws (Err e) → Wrote old new text flaws r
passed old new text flaws e r h w = rw (passed_on r h) w

pub flawless : (flaws : List Unwritten) (e : Unwritten) → IsFirstFlaw [] e → IsFirstFlaw flaws e
flawless flaws Memory h = tt
flawless flaws NoRow h = h
flawless flaws NotText h = absurd (cc (h))
flawless flaws WrongLength h = absurd (cc (h))

pub row_passed : (old new : List ℕ) (ps : List Piece) (flaws : List Unwritten) (e : Unwritten) (r : Result (Unit {0}) Unwritten) → IsErrAnd r (λ y. y ≡ e) → WroteRow old new ps flaws (Err e) → WroteRow old new ps flaws r
row_passed old new ps flaws e r h w = rw (passed_on r h) w

-- an allocation failed in a part of a text
pub failed : (old mid new a b text : List ℕ) (flaws : List Unwritten) (e : Unwritten) → mid ≡ old ++ a → Wrote mid new b [] (Err e) → Wrote old new text flaws (Err e)
failed old mid new a b text flaws e h k = (record { more = a ++ k.0.more; grown = k.0.grown ∙ (ap (λ z. z ++ k.0.more) h ∙ append_assoc old a k.0.more) }, flawless flaws e k.1)

-- the old text begins with itself
pub begins : (old : List ℕ) → Begins old old
begins old = record { more = []; grown = sym (append-nil old) }
