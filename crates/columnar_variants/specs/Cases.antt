-- The result of pushing a value of one variant to its column and to the variants.
use Rattle.std.specs.Prelude.{ℕ, [], ◌∷◌, ◌++◌, ◌≡◌, ◌⊎◌}
use Rattle.columnar_core.specs.Row.{Row}
use Rattle.columnar_core.specs.Format.{Format, Content, IsSound}
use Rattle.columnar_core.specs.Change.{Took, Stayed, Refused, IsTrueOf}
use Rattle.columnar_base.specs.declared.fault.GrowError.{GrowError}
use Rattle.columnar_sums.specs.Discriminants.{variants_of, discriminant_format}

pub record CaseTook (f : Format) (p p' y y' : Content) (k : ℕ) (r : Row) : Type 0 where
  pub took : Took f p p' (r ∷ [])
  pub forms : IsSound discriminant_format y'
  pub variants : variants_of y' ≡ variants_of y ++ k ∷ []

-- The error is justified for the variants, for some row.
pub record FormsRefuse (y : Content) (error : GrowError) : Type 0 where
  pub row : Row
  pub cause : IsTrueOf error discriminant_format y (row ∷ [])

pub record CaseRefused (f : Format) (p p' y y' : Content) (k : ℕ) (r : Row) (error : GrowError) : Type 0 where
  pub forms : y' ≡ y
  pub why : Refused f p p' (r ∷ []) error ⊎ (Stayed f p p' × FormsRefuse y error)
