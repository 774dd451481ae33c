-- Texts that are written of rows: bytes, and texts of floats, which no definition determines.
use Rattle.std.specs.Prelude.{ℕ, List, [], ◌∷◌, ◌++◌, ◌+◌, ◌-◌, ◌*◌, ◌≡◌, cond, nat_lt, Option, None, Some, option_map, IsTrue, IsFalse, codes}
use Rattle.std.specs.Float.{binary32, binary64, float_is_finite}
use Rattle.std.specs.Float.Ieee.{Float, Format, of_bits, top}
use Rattle.ryu.specs.Parse.{parse_float}
use Rattle.ryu.specs.Plain.{IsPlusNumber}

-- a piece of a text: bytes, an `f32`, an `f64`
pub data Piece : Type 0 where
  bytes : List ℕ → Piece
  single : Float → Piece
  double : Float → Piece

-- bytes only
abbrev pub plain : List ℕ → List Piece
plain [] = []
plain (b ∷ bs) = bytes (b ∷ bs) ∷ []

-- A text of a float. If the float is finite, it is a number of JSON that reads as the float, laid out as `ryu` does: an
-- exponent stands only where more than `whole_digits` digits would stand before the point, or more than `leading_zeros`
-- zeros after it. Else it is `null`.
pub record IsRealText (whole_digits leading_zeros : ℕ) (f : Format) (x : Float) (text : List ℕ) : Type 0 where
  pub layout : IsTrue (float_is_finite x) → IsPlusNumber whole_digits leading_zeros text
  pub reads : IsTrue (float_is_finite x) → parse_float f text ≡ Some x
  pub other : IsFalse (float_is_finite x) → text ≡ codes "null"

abbrev pub IsPiece : Piece → List ℕ → Type 0
IsPiece (bytes bs) text = text ≡ bs
IsPiece (single x) text = IsRealText 13 5 binary32 x text
IsPiece (double x) text = IsRealText 16 4 binary64 x text

-- the text is made of a text of each piece
abbrev pub Spells : List Piece → List ℕ → Type 0
Spells [] text = text ≡ []
Spells (p ∷ ps) text = (t u : List ℕ) × ((text ≡ t ++ u) × (IsPiece p t × Spells ps u))

-- the only text of pieces without floats
abbrev pub joined : List Piece → Option (List ℕ)
joined [] = Some []
joined (bytes bs ∷ ps) = option_map (λ t. bs ++ t) (joined ps)
joined (p ∷ ps) = None

-- such a text was appended
abbrev pub Appended : List ℕ → List ℕ → List Piece → Type 0
Appended old new ps = (t : List ℕ) × ((new ≡ old ++ t) × Spells ps t)

-- the float at a place in the order of floats
abbrev pub float_at : Format → ℕ → Float
float_at f n = of_bits f (cond (nat_lt n (top f)) (2 * top f - 1 - n) (n - top f))
