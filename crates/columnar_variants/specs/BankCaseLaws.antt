-- Laws of pushes to a bank.
use Rattle.std.proofs.Common.{◌≡◌, ℕ, suc, ◌+◌, ◌<◌, List, [], ◌∷◌, ◌++◌, length, sym, ◌∙◌, ap, subst, arith, ⊎_elim, inl, inr}
use Rattle.columnar_core.specs.Row.{Row}
use Rattle.columnar_core.specs.Format.{Format, Content, both, IsSound}
use Rattle.columnar_core.specs.Change.{Took, Stayed, Refused}
use Rattle.columnar_base.specs.declared.fault.GrowError.{GrowError}
use Rattle.columnar_sums.specs.Discriminants.{times, variants_of}
use Rattle.columnar_variants.specs.Variants.{Bank, IsBank, BankStayed, BankRefused, leaf, join, join_table, variants_format, case}
use Rattle.columnar_variants.specs.VariantLaws.{leaf_took, first_took, later_took, leaf_stayed, first_stayed, later_stayed, leaf_refused, first_refused, later_refused, variants_took, variants_refused, variants_full, variants_number}
use Rattle.columnar_variants.specs.Cases.{CaseTook, CaseRefused, FormsRefuse}
use Rattle.columnar_variants.specs.BankCases.{BankCaseTook, BankCaseRefused}

-- the variants of the others start one later
pub told_first : (b : Bank) (c : Content) (ws : List ℕ) (base : ℕ) → 0 < b.size → ((v : ℕ) → v < b.size → length (b.table c v) ≡ times (base + v) ws) → length (b.table c 0) ≡ times base ws
told_first b c ws base l h = h 0 l ∙ ap (λ k. times k ws) (omega arith)

pub told_later : (a : Format) (b : Bank) (x y : Content) (ws : List ℕ) (base : ℕ) → ((v : ℕ) → v < suc b.size → length (join_table a b (both x y) v) ≡ times (base + v) ws) → (v : ℕ) → v < b.size → length (b.table y v) ≡ times (base + 1 + v) ws
told_later a b x y ws base h = λ v l. h (suc v) (omega arith) ∙ ap (λ k. times k ws) (omega arith)

pub told_whole : (b : Bank) → IsBank b → {x y : Content} → IsSound (variants_format b) (both x y) → (v : ℕ) → v < b.size → length (b.table x v) ≡ times (0 + v) (variants_of y)
told_whole b law {x} {y} s v l = variants_number b law s v l ∙ ap (λ k. times k (variants_of y)) (omega arith)

-- a single variant
pub leaf_case_took : (a : Format) {x x' y y' : Content} {base n : ℕ} {r : Row} → n ≡ base → CaseTook a x x' y y' n r → BankCaseTook (leaf a) x x' y y' base 0 r
leaf_case_took a {x} {x'} {y} {y'} {base} {n} e t = record { took = leaf_took a t.took; forms = t.forms; variants = t.variants ∙ ap (λ k. variants_of y ++ k ∷ []) (omega (arith, e)) }

pub leaf_case_refused : (a : Format) {x x' y y' : Content} {n : ℕ} {r : Row} {error : GrowError} → CaseRefused a x x' y y' n r error → BankCaseRefused (leaf a) x x' y y' 0 r error
leaf_case_refused a {x} {x'} {y} {y'} {n} {r} {error} t = record {
  forms = t.forms;
  why = ⊎_elim (λ (u : Refused a x x' (r ∷ []) error). inl (leaf_refused a u)) (λ (u : Stayed a x x' × FormsRefuse y error). inr (leaf_stayed a u.0, u.1)) t.why;
}

-- the first of several; k and s are the item's variant and value
pub first_case_took : (a : Format) (b : Bank) → IsBank b → {x x' z y y' : Content} {base n k : ℕ} {r s : Row} → k ≡ 0 → s ≡ r → n ≡ base → CaseTook a x x' y y' n r → BankCaseTook (join a b) (both x z) (both x' z) y y' base k s
first_case_took a b law {x} {x'} {z} {y} {y'} {base} {n} p q e t = rw (p, q) (record { took = first_took a b law t.took; forms = t.forms; variants = t.variants ∙ ap (λ i. variants_of y ++ i ∷ []) (omega (arith, e)) })

pub first_case_refused : (a : Format) (b : Bank) {x x' z y y' : Content} {n k : ℕ} {r s : Row} {error : GrowError} → k ≡ 0 → s ≡ r → CaseRefused a x x' y y' n r error → BankCaseRefused (join a b) (both x z) (both x' z) y y' k s error
first_case_refused a b {x} {x'} {z} {y} {y'} {n} {k} {r} {s} {error} p q t = rw (p, q) (record {
  forms = t.forms;
  why = ⊎_elim (λ (u : Refused a x x' (r ∷ []) error). inl (first_refused a b u)) (λ (u : Stayed a x x' × FormsRefuse y error). inr (first_stayed a b u.0, u.1)) t.why;
})

-- one of the others
pub later_case_took : (a : Format) (b : Bank) {x z z' y y' : Content} {base i k : ℕ} {r s : Row} → k ≡ suc i → s ≡ r → BankCaseTook b z z' y y' (base + 1) i r → BankCaseTook (join a b) (both x z) (both x z') y y' base k s
later_case_took a b {x} {z} {z'} {y} {y'} {base} {i} p q t = rw (p, q) (record { took = later_took a b t.took; forms = t.forms; variants = t.variants ∙ ap (λ j. variants_of y ++ j ∷ []) (omega arith) })

pub later_case_refused : (a : Format) (b : Bank) {x z z' y y' : Content} {i k : ℕ} {r s : Row} {error : GrowError} → k ≡ suc i → s ≡ r → BankCaseRefused b z z' y y' i r error → BankCaseRefused (join a b) (both x z) (both x z') y y' k s error
later_case_refused a b {x} {z} {z'} {y} {y'} {i} {k} {r} {s} {error} p q t = rw (p, q) (record {
  forms = t.forms;
  why = ⊎_elim (λ (u : BankRefused b z z' i r error). inl (later_refused a b u)) (λ (u : BankStayed b z z' × FormsRefuse y error). inr (later_stayed a b u.0, u.1)) t.why;
})

-- the whole; r is the row that it represents
pub whole_took : (b : Bank) → IsBank b → {x x' y y' : Content} (k : ℕ) {r s : Row} → s ≡ case k r → k < b.size → IsSound (variants_format b) (both x y) → BankCaseTook b x x' y y' 0 k r → Took (variants_format b) (both x y) (both x' y') (s ∷ [])
whole_took b law {x} {x'} {y} {y'} k {r} {s} e l w t = subst (λ q. Took (variants_format b) (both x y) (both x' y') (q ∷ [])) (sym e) (variants_took b law k l w t.took t.forms (t.variants ∙ ap (λ i. variants_of y ++ i ∷ []) (omega arith)))

pub whole_refused : (b : Bank) → IsBank b → {x x' y y' : Content} (k : ℕ) {r s : Row} {error : GrowError} → s ≡ case k r → IsSound (variants_format b) (both x y) → BankCaseRefused b x x' y y' k r error → Refused (variants_format b) (both x y) (both x' y') (s ∷ []) error
whole_refused b law {x} {x'} {y} {y'} k {r} {s} {error} e w t = subst (λ q. Refused (variants_format b) (both x y) (both x' y') (q ∷ []) error) (sym e)
    (rw t.forms (⊎_elim (λ (u : BankRefused b x x' k r error). variants_refused b law k w u) (λ (u : BankStayed b x x' × FormsRefuse y error). variants_full b law k u.1.row w u.0 u.1.cause) t.why))
