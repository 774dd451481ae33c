-- The declarations of a source file.
use Rattle.std.specs.Prelude.{ℕ, List}
use Rattle.columnar_syntax.specs.Names.{Scope}
use Rattle.columnar_syntax.specs.Plain.{type_tokens}
use Rattle.columnar_syntax.specs.declared.schema.Bounds.{Bounds}

-- these bounds of `Vec<T>`, and the declarations of a source file
abbrev pub in_source : Bounds → List ℕ → Scope
in_source lists source = record { bounds = lists; source = type_tokens source }
