-- Banks that are made from an earlier form of themselves.
use Rattle.std.proofs.Common.{◌≡◌, ℕ, ◌<◌, true, List, length, take}
use Rattle.std.specs.Prelude.{◌⊎◌}
use Rattle.columnar_core.specs.Row.{Row}
use Rattle.columnar_core.specs.Format.{Format, Content, IsSound, Excess, refuses_more}
use Rattle.columnar_core.specs.Change.{IsTrueOf}
use Rattle.columnar_core.specs.declared.fault.GrowError.{GrowError}
use Rattle.columnar_variants.specs.Variants.{Bank}
use Rattle.columnar_variants.specs.VariantRows.{IsBare}

-- The bank `old` is an earlier form of `new`: its columns have fewer slices, or it is the same.
abbrev pub IsEarlierBank : Bank → Bank → Type 0
IsEarlierBank old new = (old.sides.count < new.sides.count) ⊎ (old ≡ new)

-- columns that were made from earlier ones: well-formed, with the same values
pub record IsBankMadeOf (old new : Bank) (x y : Content) : Type 0 where
  pub sound : IsSound new.sides y
  pub values : (v : ℕ) → new.table y v ≡ old.table x v

-- The error names a true cause why the columns cannot hold these values; f gives those of each variant.
pub record IsBankCause (b : Bank) (x : Content) (f : ℕ → List Row) (error : GrowError) : Type 0 where
  pub format : Format
  pub content : Content
  pub asked : List Row
  pub cause : IsTrueOf error format content asked
  pub passes : (e : Excess) (n : ℕ → ℕ) → ((v : ℕ) → v < b.size → n v ≡ length (b.table x v)) → refuses_more format e content asked ≡ true → b.refuses e x n f ≡ true

abbrev pub IsTrueOfBare : GrowError → Bank → (ℕ → List Row) → Type 0
IsTrueOfBare error b f = (x : Content) → IsSound b.sides x → IsBare b x → IsBankCause b x f error
