use Rattle.std.proofs.Common.{◌≡◌, ◌≢◌, ◌≤◌, ◌^◌, ◌∙◌, ℕ, List, ap, length, refl, subst, sym, arith}
use Rattle.std.specs.Prelude.{Option, Some, None}
use Rattle.columnar_core.specs.Frame.{framed_slices}
use Rattle.columnar_bytes.specs.Accepted.{Accepts}
use Rattle.columnar_schema.specs.Formats.{format_of}
use Rattle.columnar_syntax.specs.Names.{Names, a_type}
use Rattle.columnar_syntax.specs.Reading.{NestsWithin}
use Rattle.columnar_syntax.specs.Plain.{type_tokens}
use Rattle.columnar_syntax.specs.declared.schema.Bounds.{Bounds}
use Rattle.columnar_syntax.specs.declared.schema.Schema.{Schema}
use Rattle.columnar_syntax.specs.declared.text.Mistake.{Mistake}
use Rattle.columnar_syntax.specs.declared.text.Mistake.TheVariants.{Memory}
use Rattle.columnar_c.specs.Answers.{bounds_of, Counted, IsNoType}

-- the report on accepted bytes
pub counted_accepted : (lists : Bounds) (bounds : ℕ) (text bytes : List ℕ) (schema : Schema) (rows rule slice : ℕ) → Some lists ≡ bounds_of bounds → Names lists a_type (type_tokens text) schema → Accepts (format_of schema) bytes → rows ≡ length ((format_of schema).rows ((format_of schema).build (framed_slices bytes))) → Counted bounds text bytes 0 rows rule slice
counted_accepted lists bounds text bytes schema rows rule slice k n a r = record {
  judged = record {
    schema = schema;
    named = record { lists = lists; kept = sym k; named = n };
    accepted = (λ _. a, λ _. refl);
    broken = λ e. absurd (omega (arith, e));
  };
  counted = λ _. r;
}

-- what the option keeps
abbrev kept : Option Bounds → Bounds → Bounds
kept (Some b) d = b
kept None d = d

-- the report on a text that is refused
pub unread_text : (lists : Bounds) (bounds : ℕ) (text : List ℕ) (answer : ℕ) (mistake : Mistake) → Some lists ≡ bounds_of bounds → ((s : Schema) (n : Names lists a_type (type_tokens text) s) → NestsWithin 64 n → length text ≤ 2 ^ 58 → mistake ≡ Memory) → (answer ≡ 2 → mistake ≢ Memory) → answer ≡ 2 → IsNoType bounds text
unread_text lists bounds text answer mistake k w r e other h =
    let same : lists ≡ other = ap (λ o. kept o lists) (k ∙ h) in
    subst (λ (b : Bounds). (s : Schema) (n : Names b a_type (type_tokens text) s) → NestsWithin 64 n → length text ≤ 2 ^ 58 → ⊥) same (λ s n d l. r e (w s n d l))
