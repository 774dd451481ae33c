-- The type that a word of the command line names.
use Rattle.std.specs.Prelude.{ℕ, List, ◌≡◌, ◌⊎◌, ◌==◌, get_or}
use Rattle.std.specs.List.{after_first}
use Rattle.columnar_syntax.specs.Names.{Declares, Names, a_type}
use Rattle.columnar_syntax.specs.Plain.{type_tokens}
use Rattle.columnar_syntax.specs.Sources.{in_source}
use Rattle.columnar_syntax.specs.Unnamed.{NamesNothing}
use Rattle.columnar_syntax.specs.declared.schema.Bounds.{Bounds}
use Rattle.columnar_syntax.specs.declared.schema.Schema.{Schema}

-- the name in `@FILE:NAME`: what follows the first colon
abbrev pub name_in : List ℕ → List ℕ
name_in word = after_first (λ b. b == 58) word

-- the word is the text of the type; or it begins with `@`, and a source declares the type by its name
abbrev pub Asks : Bounds → List ℕ → Schema → Type 0
Asks lists word s = Names lists a_type (type_tokens word) s ⊎ ((get_or word 0 0 ≡ 64) × ((source : List ℕ) × Declares (in_source lists source) (name_in word) s))

-- the status if a word names no type, or a file or memory failed while it was read
abbrev pub IsNoType : Bounds → List ℕ → ℕ → Type 0
IsNoType lists word status = (status ≡ 1) ⊎ ((status ≡ 2) × ((get_or word 0 0 ≡ 64) ⊎ NamesNothing lists word))
