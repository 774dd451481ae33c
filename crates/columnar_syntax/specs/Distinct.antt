-- Fields of a struct, and variants of an enum, with the same name.
use Rattle.std.specs.Prelude.{ℕ, List, ◌≡◌, ◌⊎◌}
use Rattle.columnar_syntax.specs.declared.schema.Schema.{Schema, Beside', Field', Named, Case'}

-- one of these fields or variants has this name
abbrev pub Holds : Schema → List ℕ → Type 0
Holds (Field' v p t) name = v.items ≡ name
Holds (Named v) name = v.items ≡ name
Holds (Case' v k p t) name = v.items ≡ name
Holds (Beside' p a q u) name = Holds a name ⊎ Holds u name
Holds s name = ⊥

-- no name is among the first and among the later ones
abbrev pub AreApart : Schema → Schema → Type 0
AreApart first later = (name : List ℕ) → Holds first name → Holds later name → ⊥
