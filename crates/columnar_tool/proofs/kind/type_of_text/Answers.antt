use Rattle.std.proofs.Common.{ℕ, List, ◌≡◌, ◌≢◌, ◌⊎◌, inl, inr, ◌≤◌, ◌^◌, false, length}
use Rattle.columnar_syntax.specs.Names.{Names, a_type}
use Rattle.columnar_syntax.specs.Reading.{NestsWithin}
use Rattle.columnar_syntax.specs.Plain.{type_tokens}
use Rattle.columnar_syntax.specs.declared.schema.Bounds.{Bounds}
use Rattle.columnar_syntax.specs.declared.schema.Schema.{Schema}
use Rattle.columnar_syntax.specs.declared.text.Mistake.{Mistake}
use Rattle.columnar_syntax.specs.declared.text.Mistake.TheVariants.{Memory}
use Rattle.columnar_tool.specs.Kinds.{IsNoType}
use Rattle.columnar_tool.proofs.kind.type_of_text.Goals as goal

no_type_is : (lists : Bounds) (text : List ℕ) (status : ℕ) (mistake : Mistake) → ((s : Schema) (n : Names lists a_type (type_tokens text) s) → NestsWithin 64 n → length text ≤ 2 ^ 58 → mistake ≡ Memory) → (status ≡ 1) ⊎ ((status ≡ 2) × (mistake ≢ Memory)) → IsNoType lists text status
no_type_is lists text status mistake w (inl e) = inl e
no_type_is lists text status mistake w (inr p) = inr (p.0, inr (λ s n d l. p.1 (w s n d l)))

pub returns-in-Err-clause-refused : goal.returns-in-Err-clause-refused
returns-in-Err-clause-refused g c = no_type_is c.args.lists c.args.text.now c.no_type.result c.in-Err.refused.mistake (rw c.as_bytes.ensures.value at c.in-Err.ensures.whole) c.no_type.ensures
