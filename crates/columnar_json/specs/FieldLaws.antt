-- Values as fields of a record, by their bytes and by their pieces.
use Rattle.std.proofs.Common.{◌≡◌, ℕ, ◌+◌, ◌<◌, ◌≤◌, Bool, true, false, List, [], ◌∷◌, ◌++◌, ◌==◌, length, refl, sym, ◌∙◌, ap, subst, arith, append_assoc, append-nil, length-append}
use Rattle.std.specs.Prelude.{Result, Ok, Err, ◌||◌, codes, map, if◌then◌else◌}
use Rattle.std.specs.Char.{digit_value}
use Rattle.std.specs.Float.{binary32, binary64, float_is_finite}
use Rattle.std.specs.Float.Ieee.{Float, Format}
use Rattle.std.specs.Fmt.{sign_text}
use Rattle.std.specs.List.{flat_map, list_any}
use Rattle.std.specs.Str.Parse.{AllDigits}
use Rattle.std.proofs.lemmas.Bool.{eqb-true}
use Rattle.std.proofs.lemmas.Grind.{flat_map-append}
use Rattle.std.proofs.lemmas.List.Folds.{list_any-append}
use Rattle.ryu.specs.Plain.{IsPlusNumber, exponent_sign, exponent_with}
use Rattle.columnar_json.specs.Csv.{doubled, doubled_piece, field_of, field_text, is_nothing, is_special, is_special_piece, shown}
use Rattle.columnar_json.specs.Json.{between, commas}
use Rattle.columnar_json.specs.Pieces.{Appended, IsPiece, IsRealText, Piece, Spells, bytes, double, plain, single}
use Rattle.columnar_json.specs.Written.{Begins, IsFirstFlaw, Wrote, WroteRow}
use Rattle.columnar_json.specs.WrittenLaws.{begins, flawless, plain_spells, spells_both, wrote_plain}
use Rattle.columnar_json.specs.declared.unwritten.Unwritten.{Unwritten}

or_false : (a b : Bool) → (a || b) ≡ false → (a ≡ false) × (b ≡ false)
or_false true b e = absurd (cc (e))
or_false false b e = (refl, e)

-- ---- texts of floats have no special byte

byte_not : (n c : ℕ) (b : Bool) → (c == n) ≡ b → (digit_value n < 10 → ⊥) → digit_value c < 10 → (c == n) ≡ false
byte_not n c true e h d = absurd (h (subst (λ (x : ℕ). digit_value x < 10) (eqb-true c n e) d))
byte_not n c false e h d = e

not_digit : 36 < 10 → ⊥
not_digit h = omega (arith, h)

digit_plain : (c : ℕ) → digit_value c < 10 → is_special c ≡ false
digit_plain c d = rw (byte_not 34 c (c == 34) refl not_digit d, byte_not 44 c (c == 44) refl not_digit d, byte_not 10 c (c == 10) refl not_digit d, byte_not 13 c (c == 13) refl not_digit d) refl

digits_plain : (cs : List ℕ) → AllDigits 10 cs → list_any is_special cs ≡ false
digits_plain [] d = refl
digits_plain (c ∷ cs) d = rw (digit_plain c d.0, digits_plain cs d.1) refl

both_plain : (xs ys : List ℕ) → list_any is_special xs ≡ false → list_any is_special ys ≡ false → list_any is_special (xs ++ ys) ≡ false
both_plain xs ys h k = rw (list_any-append is_special xs ys, h, k) refl

sign_plain : (n : Bool) → list_any is_special (sign_text n) ≡ false
sign_plain true = refl
sign_plain false = refl

exponent_sign_plain : (n : Bool) → list_any is_special (exponent_sign true n) ≡ false
exponent_sign_plain true = refl
exponent_sign_plain false = refl

exponent_plain : (n : Bool) (ds : List ℕ) → AllDigits 10 ds → list_any is_special (exponent_with true n ds) ≡ false
exponent_plain n [] h = refl
exponent_plain n (d ∷ ds) h = both_plain (exponent_sign true n) (d ∷ ds) (exponent_sign_plain n) (digits_plain (d ∷ ds) h)

fraction_plain : (b : Bool) (ds : List ℕ) → AllDigits 10 ds → list_any is_special (if b then 46 ∷ ds else []) ≡ false
fraction_plain true ds h = digits_plain ds h
fraction_plain false ds h = refl

number_plain : (w z : ℕ) (text : List ℕ) → IsPlusNumber w z text → list_any is_special text ≡ false
number_plain w z text h =
    let p = h.1 in
    let f = h.3.well_formed in
    let e = exponent_plain p.exponent_negative p.exponent f.exponent_digits in
    let d = both_plain (if p.point then 46 ∷ p.fraction else []) (exponent_with true p.exponent_negative p.exponent) (fraction_plain p.point p.fraction f.fraction_digits) e in
    let n = both_plain p.whole ((if p.point then 46 ∷ p.fraction else []) ++ exponent_with true p.exponent_negative p.exponent) (digits_plain p.whole f.whole_digits) d in
    rw (h.2) (both_plain (sign_text h.0) (p.whole ++ ((if p.point then 46 ∷ p.fraction else []) ++ exponent_with true p.exponent_negative p.exponent)) (sign_plain h.0) n)

real_by : (w z : ℕ) (f : Format) (x : Float) (text : List ℕ) (b : Bool) → float_is_finite x ≡ b → IsRealText w z f x text → list_any is_special text ≡ false
real_by w z f x text true e h = number_plain w z text (h.layout e)
real_by w z f x text false e h = rw (h.other e) refl

-- ---- and have bytes

number_some : (w z : ℕ) (text : List ℕ) → IsPlusNumber w z text → 0 < length text
number_some w z text h =
    let p = h.1 in
    let rest = (if p.point then 46 ∷ p.fraction else []) ++ exponent_with true p.exponent_negative p.exponent in
    let k = length-append (sign_text h.0) (p.whole ++ rest) in
    let l = length-append p.whole rest in
    let m : length text ≡ length (sign_text h.0 ++ (p.whole ++ rest)) = ap length h.2 in
    let whole = h.3.whole in
    omega (arith, k, l, m, whole)

real_some : (w z : ℕ) (f : Format) (x : Float) (text : List ℕ) (b : Bool) → float_is_finite x ≡ b → IsRealText w z f x text → 0 < length text
real_some w z f x text true e h = number_some w z text (h.layout e)
real_some w z f x text false e h = rw (h.other e) (omega arith)

-- ---- special bytes of pieces

piece_special : (p : Piece) (a : List ℕ) → IsPiece p a → list_any is_special a ≡ is_special_piece p
piece_special (bytes bs) a h = ap (list_any is_special) h
piece_special (single x) a h = real_by 13 5 binary32 x a (float_is_finite x) refl h
piece_special (double x) a h = real_by 16 4 binary64 x a (float_is_finite x) refl h

special_same : (ps : List Piece) (t : List ℕ) → Spells ps t → list_any is_special t ≡ list_any is_special_piece ps
special_same [] t h = rw h refl
special_same (p ∷ ps) t h = rw (h.2.0, list_any-append is_special h.0 h.1, piece_special p h.0 h.2.1.0, special_same ps h.1 h.2.1.1) refl

doubled_none : (bs : List ℕ) → list_any is_special bs ≡ false → flat_map doubled bs ≡ bs
doubled_none [] h = refl
doubled_none (b ∷ bs) h =
    let k = or_false (is_special b) (list_any is_special bs) h in
    let q = (or_false (b == 34) ((b == 44) || ((b == 10) || (b == 13))) k.0).0 in
    rw q (ap (λ xs. b ∷ xs) (doubled_none bs k.1))

doubled_is : (p : Piece) (a : List ℕ) → IsPiece p a → IsPiece (doubled_piece p) (flat_map doubled a)
doubled_is (bytes bs) a h = ap (flat_map doubled) h
doubled_is (single x) a h = rw (doubled_none a (real_by 13 5 binary32 x a (float_is_finite x) refl h)) h
doubled_is (double x) a h = rw (doubled_none a (real_by 16 4 binary64 x a (float_is_finite x) refl h)) h

doubled_spells : (ps : List Piece) (t : List ℕ) → Spells ps t → Spells (map doubled_piece ps) (flat_map doubled t)
doubled_spells [] t h = rw h refl
doubled_spells (p ∷ ps) t h = (flat_map doubled h.0, flat_map doubled h.1, (ap (flat_map doubled) h.2.0 ∙ flat_map-append doubled h.0 h.1, (doubled_is p h.0 h.2.1.0, doubled_spells ps h.1 h.2.1.1)))

-- ---- fields

quotes_spell : (ps : List Piece) (t : List ℕ) → Spells ps t → Spells (between (codes "\"") (codes "\"") (map doubled_piece ps)) (codes "\"" ++ (flat_map doubled t ++ codes "\""))
quotes_spell ps t h = spells_both (plain (codes "\"")) (map doubled_piece ps ++ plain (codes "\"")) (codes "\"") (flat_map doubled t ++ codes "\"") (plain_spells (codes "\"")) (spells_both (map doubled_piece ps) (plain (codes "\"")) (flat_map doubled t) (codes "\"") (doubled_spells ps t h) (plain_spells (codes "\"")))

field_by : (ps : List Piece) (t : List ℕ) (b : Bool) → list_any is_special_piece ps ≡ b → list_any is_special t ≡ b → Spells ps t → Spells (field_of ps) (field_text t)
field_by ps t true e k h = rw (e, k) (quotes_spell ps t h)
field_by ps t false e k h = rw (e, k) h

field_spells : (ps : List Piece) (t : List ℕ) → Spells ps t → Spells (field_of ps) (field_text t)
field_spells ps t h = field_by ps t (list_any is_special_piece ps) refl (special_same ps t h) h

-- a value was written as a field
pub field_wrote : (value old new : List ℕ) (ps : List Piece) (flaws : List Unwritten) (r : Result (Unit {0}) Unwritten) → WroteRow [] value ps flaws (Ok tt) → Wrote old new (field_text value) [] r → WroteRow old new (field_of ps) flaws r
field_wrote value old new ps flaws (Ok u) w k =
    let e : value ≡ w.0.0 = w.0.1.0 in
    ((field_text value, (k.0, rw e (field_spells ps w.0.0 w.0.1.1))), w.1)
field_wrote value old new ps flaws (Err e) w k = (k.0, flawless flaws e k.1)

-- it was not
pub field_failed : (value old : List ℕ) (ps qs : List Piece) (flaws : List Unwritten) (e : Unwritten) → WroteRow [] value ps flaws (Err e) → WroteRow old old qs flaws (Err e)
field_failed value old ps qs flaws e w = (begins old, w.1)

-- ---- records

nothing_spelled : (ps : List Piece) (t : List ℕ) → is_nothing ps ≡ true → Spells ps t → t ≡ []
nothing_spelled [] t e h = h
nothing_spelled (bytes [] ∷ ps) t e h = h.2.0 ∙ (rw (h.2.1.0) (nothing_spelled ps h.1 e h.2.1.1))
nothing_spelled (bytes (b ∷ bs) ∷ ps) t e h = absurd (cc (e))
nothing_spelled (single x ∷ ps) t e h = absurd (cc (e))
nothing_spelled (double x ∷ ps) t e h = absurd (cc (e))

something_spelled : (ps : List Piece) (t : List ℕ) → is_nothing ps ≡ false → Spells ps t → 0 < length t
something_spelled [] t e h = absurd (cc (e))
something_spelled (bytes [] ∷ ps) t e h =
    let k = something_spelled ps h.1 e h.2.1.1 in
    let l = ap length h.2.0 in
    let m = length-append h.0 h.1 in
    omega (arith, k, l, m)
something_spelled (bytes (b ∷ bs) ∷ ps) t e h =
    let k : 0 < length h.0 = rw (h.2.1.0) (omega arith) in
    let l = ap length h.2.0 in
    let m = length-append h.0 h.1 in
    omega (arith, k, l, m)
something_spelled (single x ∷ ps) t e h =
    let k = real_some 13 5 binary32 x h.0 (float_is_finite x) refl h.2.1.0 in
    let l = ap length h.2.0 in
    let m = length-append h.0 h.1 in
    omega (arith, k, l, m)
something_spelled (double x ∷ ps) t e h =
    let k = real_some 16 4 binary64 x h.0 (float_is_finite x) refl h.2.1.0 in
    let l = ap length h.2.0 in
    let m = length-append h.0 h.1 in
    omega (arith, k, l, m)

-- the record has bytes
some_by : (ps : List Piece) (t : List ℕ) (b : Bool) → is_nothing ps ≡ b → Spells ps t → (length t ≡ 0 → ⊥) → Spells (shown ps) t
some_by ps t true e h k = absurd (k (ap length (nothing_spelled ps t e h)))
some_by ps t false e h k = rw e h

-- it has none
none_by : (ps : List Piece) (t : List ℕ) (b : Bool) → is_nothing ps ≡ b → Spells ps t → length t ≡ 0 → shown ps ≡ plain (codes "\"\"")
none_by ps t true e h k = rw e refl
none_by ps t false e h k =
    let l = something_spelled ps t e h in
    absurd (omega (arith, k, l))

pub some_shown : (old new : List ℕ) (ps : List Piece) (flaws : List Unwritten) → WroteRow old new ps flaws (Ok tt) → (length new ≡ length old → ⊥) → WroteRow old new (shown ps) flaws (Ok tt)
some_shown old new ps flaws w k =
    let t = w.0.0 in
    let l : length new ≡ length old + length t = ap length w.0.1.0 ∙ length-append old t in
    ((t, (w.0.1.0, some_by ps t (is_nothing ps) refl w.0.1.1 (λ z. k (omega (arith, l, z))))), w.1)

empty_list : (t : List ℕ) → length t ≡ 0 → t ≡ []
empty_list [] h = refl
empty_list (b ∷ bs) h = absurd (omega (arith, h))

-- two quotes after nothing
quotes_wrote : (old mid new t : List ℕ) (flaws : List Unwritten) (r : Result (Unit {0}) Unwritten) → mid ≡ old ++ t → length t ≡ 0 → flaws ≡ [] → Wrote mid new (codes "\"\"") [] r → WroteRow old new (plain (codes "\"\"")) flaws r
quotes_wrote old mid new t flaws r e z f q =
    let m : mid ≡ old = e ∙ (ap (λ x. old ++ x) (empty_list t z) ∙ append-nil old) in
    rw f (wrote_plain old new (codes "\"\"") [] r (rw m at q))

pub none_shown : (old mid new : List ℕ) (ps : List Piece) (flaws : List Unwritten) (r : Result (Unit {0}) Unwritten) → WroteRow old mid ps flaws (Ok tt) → length mid ≡ length old → Wrote mid new (codes "\"\"") [] r → WroteRow old new (shown ps) flaws r
none_shown old mid new ps flaws r w k q =
    let t = w.0.0 in
    let l : length mid ≡ length old + length t = ap length w.0.1.0 ∙ length-append old t in
    let z : length t ≡ 0 = omega (arith, l, k) in
    rw (none_by ps t (is_nothing ps) refl w.0.1.1 z) (quotes_wrote old mid new t flaws r w.0.1.0 z w.1 q)

-- ---- commas

pub commas_more : (t u : List Piece) (us : List (List Piece)) → commas (t ∷ u ∷ us) ≡ t ++ (plain (codes ",") ++ commas (u ∷ us))
commas_more t u us = ap (λ z. t ++ z) (append_assoc (plain (codes ",")) u (flat_map (λ v. plain (codes ",") ++ v) us))

-- ---- names

pub name_wrote : (name old new : List ℕ) (r : Result (Unit {0}) Unwritten) → Wrote old new (field_text name) [] r → WroteRow old new (field_of (plain name)) [] r
name_wrote name old new (Ok u) w = ((field_text name, (w.0, field_spells (plain name) name (plain_spells name))), w.1)
name_wrote name old new (Err e) w = w
