-- The result of pushing a value with its variant to a bank and to the variants; the variants of the bank start at
-- `base`.
use Rattle.std.specs.Prelude.{ℕ, [], ◌∷◌, ◌++◌, ◌+◌, ◌≡◌, ◌⊎◌}
use Rattle.columnar_core.specs.Row.{Row}
use Rattle.columnar_core.specs.Format.{Content, IsSound}
use Rattle.columnar_base.specs.declared.fault.GrowError.{GrowError}
use Rattle.columnar_sums.specs.Discriminants.{variants_of, discriminant_format}
use Rattle.columnar_variants.specs.Variants.{Bank, BankTook, BankStayed, BankRefused}
use Rattle.columnar_variants.specs.Cases.{FormsRefuse}

pub record BankCaseTook (b : Bank) (x x' y y' : Content) (base k : ℕ) (r : Row) : Type 0 where
  pub took : BankTook b x x' k r
  pub forms : IsSound discriminant_format y'
  pub variants : variants_of y' ≡ variants_of y ++ (base + k) ∷ []

pub record BankCaseRefused (b : Bank) (x x' y y' : Content) (k : ℕ) (r : Row) (error : GrowError) : Type 0 where
  pub forms : y' ≡ y
  pub why : BankRefused b x x' k r error ⊎ (BankStayed b x x' × FormsRefuse y error)
