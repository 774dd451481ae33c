-- Rows with one of several variants: the first, or one of the others.
use Rattle.std.specs.Prelude.{ℕ, suc}
use Rattle.columnar_core.specs.Row.{Row, number_of, first_of, second_of}
use Rattle.columnar_variants.specs.Variants.{case}
use Rattle.columnar_variants.specs.declared.cases.Nth.{Nth}
use Rattle.columnar_variants.specs.declared.cases.Nth.TheVariants.{This, Next}

-- its variant; `later` gives that among the others
abbrev pub nth_variant : {A B : Type 0} → (B → ℕ) → Nth A B → ℕ
nth_variant later (This x) = 0
nth_variant later (Next x) = suc (later x)

-- the row of its value
abbrev pub nth_value : {A B : Type 0} → (A → Row) → (B → Row) → Nth A B → Row
nth_value one other (This x) = one x
nth_value one other (Next x) = other x

abbrev pub nth_valid : {A B : Type 0} → (A → Type 0) → (B → Type 0) → Nth A B → Type 0
nth_valid one other (This x) = one x
nth_valid one other (Next x) = other x

-- a row of the others, with the variant that it has behind the first
abbrev pub later : Row → Row
later r = case (suc (number_of (first_of r))) (second_of r)

abbrev pub nth_meaning : {A B : Type 0} → (A → Row) → (B → Row) → Nth A B → Row
nth_meaning one other (This x) = case 0 (one x)
nth_meaning one other (Next x) = later (other x)
