-- What was appended to a text.
use Rattle.std.specs.Prelude.{ℕ, List, [], ◌++◌, ◌≡◌, Some, Result, Ok, Err}
use Rattle.columnar_json.specs.Json.{first_flaw}
use Rattle.columnar_json.specs.Pieces.{Appended, Piece}
use Rattle.columnar_json.specs.declared.unwritten.Unwritten.{Unwritten}
use Rattle.columnar_json.specs.declared.unwritten.Unwritten.TheVariants.{Memory, NoRow, NotText, WrongLength}

-- the new text begins with the old one
pub record Begins (old new : List ℕ) : Type 0 where
  pub more : List ℕ
  pub grown : new ≡ old ++ more

-- an allocation failed, or this is the first flaw
abbrev pub IsFirstFlaw : List Unwritten → Unwritten → Type 0
IsFirstFlaw flaws Memory = Unit {0}
IsFirstFlaw flaws NoRow = ⊥
IsFirstFlaw flaws NotText = first_flaw flaws ≡ Some NotText
IsFirstFlaw flaws WrongLength = first_flaw flaws ≡ Some WrongLength

-- The text was appended, and has no flaw; or a part of a text, up to a flaw or to an allocation that failed.
abbrev pub Wrote : List ℕ → List ℕ → List ℕ → List Unwritten → Result (Unit {0}) Unwritten → Type 0
Wrote old new text flaws (Ok u) = (new ≡ old ++ text) × (flaws ≡ [])
Wrote old new text flaws (Err e) = Begins old new × IsFirstFlaw flaws e

-- the same for a text of these pieces
abbrev pub WroteRow : List ℕ → List ℕ → List Piece → List Unwritten → Result (Unit {0}) Unwritten → Type 0
WroteRow old new pieces flaws (Ok u) = Appended old new pieces × (flaws ≡ [])
WroteRow old new pieces flaws (Err e) = Begins old new × IsFirstFlaw flaws e
