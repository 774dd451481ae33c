-- Texts that are no type.
use Rattle.std.specs.Prelude.{ℕ, List, ◌≤◌, ◌^◌, length}
use Rattle.columnar_syntax.specs.Names.{Names, a_type}
use Rattle.columnar_syntax.specs.Reading.{NestsWithin}
use Rattle.columnar_syntax.specs.Plain.{type_tokens}
use Rattle.columnar_syntax.specs.declared.schema.Bounds.{Bounds}
use Rattle.columnar_syntax.specs.declared.schema.Schema.{Schema}

-- The text names no type within the limits.
abbrev pub NamesNothing : Bounds → List ℕ → Type 0
NamesNothing lists text = (s : Schema) (n : Names lists a_type (type_tokens text) s) → NestsWithin 64 n → length text ≤ 2 ^ 58 → ⊥
