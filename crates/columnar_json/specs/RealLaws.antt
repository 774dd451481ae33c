-- Texts of floats and units, and the float of a row.
use Rattle.std.proofs.Common.{◌≡◌, ℕ, zero, suc, ◌+◌, ◌-◌, ◌*◌, ◌<◌, ◌≤◌, Bool, true, false, List, [], ◌∷◌, T, refl, sym, ◌∙◌, ap, subst, arith, append-nil}
use Rattle.std.specs.Prelude.{Some, Result, Ok, Err, IsTrue, IsFalse, cond, codes, nat_lt, slice_get}
use Rattle.std.specs.Float.{binary32, binary64, float_is_finite}
use Rattle.std.specs.Float.Ieee.{Float, Format, fits, of_bits, to_bits, top}
use Rattle.std.proofs.lemmas.Bool.{le-ltb, lt-ltb, ltb-false, ltb-true}
use lib.Ieee.Bits.{of_bits-to_bits, to_bits-lt}
use Rattle.ryu.specs.Parse.{parse_float}
use Rattle.ryu.specs.Plain.{IsPlusNumber}
use Rattle.columnar_base.specs.Floats.{float_place, float_row}
use Rattle.columnar_base.specs.Row.{Row, unit}
use Rattle.columnar_primitive.specs.Units.{units}
use Rattle.columnar_syntax.specs.declared.schema.Leaf.{Leaf}
use Rattle.columnar_syntax.specs.declared.schema.Leaf.TheVariants.{F32, F64, Unit as UnitLeaf}
use Rattle.columnar_json.specs.Json.{leaf_flaws, leaf_json, row_at}
use Rattle.columnar_json.specs.PartLaws.{row_at_get}
use Rattle.columnar_json.specs.Pieces.{IsPiece, IsRealText, Piece, float_at, single, double}
use Rattle.columnar_json.specs.Written.{Wrote, WroteRow}
use Rattle.columnar_json.specs.WrittenLaws.{wrote_plain}
use Rattle.columnar_json.specs.declared.unwritten.Unwritten.{Unwritten}

no : {X : Type 0} → true ≡ false → X
no e =
    let never : ⊥ = cc in
    absurd never

-- a bit pattern, by its place in the order of floats; t is the sign bit
back_by : (t b : ℕ) (c : Bool) → nat_lt b t ≡ c → b < 2 * t → cond (nat_lt (cond c (t + b) (2 * t - 1 - b)) t) (2 * t - 1 - cond c (t + b) (2 * t - 1 - b)) (cond c (t + b) (2 * t - 1 - b) - t) ≡ b
back_by t b true e h =
    let k : nat_lt (t + b) t ≡ false = le-ltb (t + b) t (omega arith) in
    rw k (omega arith)
back_by t b false e h =
    let m : t ≤ b = ltb-false b t e in
    let k : nat_lt (2 * t - 1 - b) t ≡ true = lt-ltb (2 * t - 1 - b) t (omega (arith, m, h)) in
    rw k (omega (arith, h))

pub place_back : (f : Format) (x : Float) → to_bits f x < 2 * top f → T (fits f x) → float_at f (float_place f (to_bits f x)) ≡ x
place_back f x h k = ap (of_bits f) (back_by (top f) (to_bits f x) (nat_lt (to_bits f x) (top f)) refl h) ∙ of_bits-to_bits f x k

-- ---- texts of floats

-- a text of a piece was appended
piece_wrote : (p : Piece) (old new bs : List ℕ) (r : Result (Unit {0}) Unwritten) → IsPiece p bs → Wrote old new bs [] r → WroteRow old new (p ∷ []) [] r
piece_wrote p old new bs (Ok u) q h = ((bs, (h.0, (bs, [], (sym (append-nil bs), (q, refl))))), h.1)
piece_wrote p old new bs (Err e) q h = h

real_text : (w z : ℕ) (f : Format) (x : Float) (bs : List ℕ) → float_is_finite x ≡ true → IsPlusNumber w z bs → parse_float f bs ≡ Some x → IsRealText w z f x bs
real_text w z f x bs e h k = record { layout = λ _. h; reads = λ _. k; other = λ n. no (sym e ∙ n) }

pub single_text : (x : Float) (old new bs : List ℕ) (r : Result (Unit {0}) Unwritten) → float_is_finite x ≡ true → IsPlusNumber 13 5 bs → parse_float binary32 bs ≡ Some x → Wrote old new bs [] r → WroteRow old new (single x ∷ []) [] r
single_text x old new bs r e h k w = piece_wrote (single x) old new bs r (real_text 13 5 binary32 x bs e h k) w

pub double_text : (x : Float) (old new bs : List ℕ) (r : Result (Unit {0}) Unwritten) → float_is_finite x ≡ true → IsPlusNumber 16 4 bs → parse_float binary64 bs ≡ Some x → Wrote old new bs [] r → WroteRow old new (double x ∷ []) [] r
double_text x old new bs r e h k w = piece_wrote (double x) old new bs r (real_text 16 4 binary64 x bs e h k) w

null_text : (w z : ℕ) (f : Format) (x : Float) → float_is_finite x ≡ false → IsRealText w z f x (codes "null")
null_text w z f x e = record { layout = λ h. no (sym h ∙ e); reads = λ h. no (sym h ∙ e); other = λ _. refl }

pub single_null : (x : Float) (old new : List ℕ) (r : Result (Unit {0}) Unwritten) → float_is_finite x ≡ false → Wrote old new (codes "null") [] r → WroteRow old new (single x ∷ []) [] r
single_null x old new r e w = piece_wrote (single x) old new (codes "null") r (null_text 13 5 binary32 x e) w

pub double_null : (x : Float) (old new : List ℕ) (r : Result (Unit {0}) Unwritten) → float_is_finite x ≡ false → Wrote old new (codes "null") [] r → WroteRow old new (double x ∷ []) [] r
double_null x old new r e w = piece_wrote (double x) old new (codes "null") r (null_text 16 4 binary64 x e) w

-- ---- floats in rows

pub single_wrote : (l : Leaf) (rs : List Row) (i : ℕ) (x : Float) (old new : List ℕ) (r : Result (Unit {0}) Unwritten) → l ≡ F32 → fits binary32 x ≡ true → slice_get rs i ≡ Some (float_row binary32 x) → WroteRow old new (single x ∷ []) [] r → WroteRow old new (leaf_json l (row_at rs i)) (leaf_flaws l (row_at rs i)) r
single_wrote l rs i x old new r e k h w = rw (e, row_at_get rs i (float_row binary32 x) h, place_back binary32 x (to_bits-lt binary32 x (subst T (sym k) tt)) (subst T (sym k) tt)) w

pub double_wrote : (l : Leaf) (rs : List Row) (i : ℕ) (x : Float) (old new : List ℕ) (r : Result (Unit {0}) Unwritten) → l ≡ F64 → fits binary64 x ≡ true → slice_get rs i ≡ Some (float_row binary64 x) → WroteRow old new (double x ∷ []) [] r → WroteRow old new (leaf_json l (row_at rs i)) (leaf_flaws l (row_at rs i)) r
double_wrote l rs i x old new r e k h w = rw (e, row_at_get rs i (float_row binary64 x) h, place_back binary64 x (to_bits-lt binary64 x (subst T (sym k) tt)) (subst T (sym k) tt)) w

-- ---- units

unit_row : (n i : ℕ) → row_at (units n) i ≡ unit
unit_row zero i = refl
unit_row (suc n) zero = refl
unit_row (suc n) (suc i) = unit_row n i

pub unit_wrote : (l : Leaf) (n i : ℕ) (old new : List ℕ) (r : Result (Unit {0}) Unwritten) → l ≡ UnitLeaf → Wrote old new (codes "null") [] r → WroteRow old new (leaf_json l (row_at (units n) i)) (leaf_flaws l (row_at (units n) i)) r
unit_wrote l n i old new r e w = rw (e, unit_row n i) (wrote_plain old new (codes "null") [] r w)
