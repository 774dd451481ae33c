-- A value of one variant is accepted or refused like a row of the whole.
use Rattle.std.proofs.Common.{ℕ, ◌<◌, [], ◌∷◌, ⊎_elim}
use Rattle.columnar_core.specs.Row.{Row}
use Rattle.columnar_core.specs.Format.{Format, Content, both, IsSound}
use Rattle.columnar_core.specs.Change.{Took, Stayed, Refused}
use Rattle.columnar_base.specs.declared.fault.GrowError.{GrowError}
use Rattle.columnar_variants.specs.Variants.{Bank, IsBank, BankTook, BankStayed, BankRefused, variants_format, case}
use Rattle.columnar_variants.specs.VariantLaws.{variants_took, variants_refused, variants_full}
use Rattle.columnar_variants.specs.Cases.{CaseTook, CaseRefused, FormsRefuse}

pub case_took : (b : Bank) → IsBank b → {f : Format} {p p' x x' y y' : Content} (k : ℕ) {r : Row} → k < b.size → IsSound (variants_format b) (both x y) → CaseTook f p p' y y' k r → (Took f p p' (r ∷ []) → BankTook b x x' k r) → Took (variants_format b) (both x y) (both x' y') (case k r ∷ [])
case_took b law {f} {p} {p'} {x} {x'} {y} {y'} k {r} l s t g = variants_took b law k l s (g t.took) t.forms t.variants

pub case_refused : (b : Bank) → IsBank b → {f : Format} {p p' x x' y y' : Content} (k : ℕ) {r : Row} {error : GrowError} → IsSound (variants_format b) (both x y) → CaseRefused f p p' y y' k r error → (Refused f p p' (r ∷ []) error → BankRefused b x x' k r error) → (Stayed f p p' → BankStayed b x x') → Refused (variants_format b) (both x y) (both x' y') (case k r ∷ []) error
case_refused b law {f} {p} {p'} {x} {x'} {y} {y'} k {r} {error} s t g h =
    rw t.forms (⊎_elim (λ (u : Refused f p p' (r ∷ []) error). variants_refused b law k s (g u)) (λ (u : Stayed f p p' × FormsRefuse y error). variants_full b law k u.1.row s (h u.0) u.1.cause) t.why)
