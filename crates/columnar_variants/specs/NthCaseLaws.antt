-- A row of the first variant or of the others is that of its variant and its value.
use Rattle.std.proofs.Common.{◌≡◌, ℕ, refl, ap}
use Rattle.columnar_core.specs.Row.{Row}
use Rattle.columnar_variants.specs.declared.cases.Nth.{Nth}
use Rattle.columnar_variants.specs.declared.cases.Nth.TheVariants.{This, Next}
use Rattle.columnar_variants.specs.Nths.{later, nth_meaning, nth_variant, nth_value}
use Rattle.columnar_variants.specs.Variants.{case}

pub nth_meant : {A B : Type 0} (one : A → Row) (other : B → Row) (variant : B → ℕ) (value : B → Row) → ((y : B) → other y ≡ case (variant y) (value y)) → (x : Nth A B) → nth_meaning one other x ≡ case (nth_variant variant x) (nth_value one value x)
nth_meant one other variant value h (This x) = refl
nth_meant one other variant value h (Next y) = ap later (h y)
