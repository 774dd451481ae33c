-- Columns of strings: a string is the list of its bytes.
use Rattle.std.specs.Prelude.{ℕ, List, [], ◌∷◌, ◌≡◌, Option, Some, None, IfSome}
use Rattle.columnar_base.specs.Change.{Took, Refused, Stayed}
use Rattle.columnar_base.specs.Elements.{bytes_format}
use Rattle.columnar_base.specs.Format.{Format, Content}
use Rattle.columnar_base.specs.Texts.{text_row}
use Rattle.columnar_base.specs.declared.fault.GrowError.{GrowError}
use Rattle.columnar_base.specs.declared.fault.GrowError.TheVariants.{Memory, Length, Offset, Format as FormatError}
use Rattle.columnar_lists.specs.Lists.{lists_format}

-- strings with bounds of the format b: lists of bytes
abbrev pub strings_format : Format → Format
strings_format b = lists_format b bytes_format

-- a value may display bs: its type names this text, or no text
abbrev pub Shows : Option (List ℕ) → List ℕ → Type 0
Shows o bs = IfSome o (λ text. bs ≡ text)

-- why a value is not displayed: an allocation failed, or the value did
abbrev pub IsUnshown : GrowError → Type 0
IsUnshown Memory = Unit {0}
IsUnshown FormatError = Unit {0}
IsUnshown Length = ⊥
IsUnshown Offset = ⊥

-- the text that a value displays, if its type names it
abbrev pub shown_text : Option (List ℕ) → List ℕ
shown_text (Some text) = text
shown_text None = []

-- one string was appended, a text that the value may display
pub record AddsShown (f : Format) (old new : Content) (o : Option (List ℕ)) : Type 0 where
  pub text : List ℕ
  pub shows : Shows o text
  pub took : Took f old new (text_row text ∷ [])

-- nothing was appended: the value failed, an allocation failed, or the column refuses a text that it may display
abbrev pub RefusesShown : Format → Content → Content → Option (List ℕ) → GrowError → Type 0
RefusesShown f old new o FormatError = Stayed f old new
RefusesShown f old new o Memory = Stayed f old new
RefusesShown f old new o Length = (text : List ℕ) × (Shows o text × Refused f old new (text_row text ∷ []) Length)
RefusesShown f old new o Offset = (text : List ℕ) × (Shows o text × Refused f old new (text_row text ∷ []) Offset)
