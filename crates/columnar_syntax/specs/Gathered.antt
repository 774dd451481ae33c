-- The fields of a struct, gathered to one type.
use Rattle.std.specs.Prelude.{Bool, true, false, ◌≡◌}
use Rattle.columnar_syntax.specs.declared.schema.Brackets.{Brackets}
use Rattle.columnar_syntax.specs.declared.schema.Schema.{Schema, Solo', Tuple', Beside'}

-- a field and those after it
abbrev pub is_beside : Schema → Bool
is_beside (Beside' p a q r) = true
is_beside _ = false

-- one field, or several, with such brackets
pub data IsGathered (one several : Brackets) : Schema → Schema → Type 0 where
  of_one : {a : Schema} {p : _} → is_beside a ≡ false → IsGathered one several a (Solo' one p a)
  of_several : {a r : Schema} {p q : _} → IsGathered one several (Beside' p a q r) (Tuple' several p a q r)

-- the one field itself, or several, with such brackets: the value of a variant
pub data IsValue (several : Brackets) : Schema → Schema → Type 0 where
  of_field : {a : Schema} → is_beside a ≡ false → IsValue several a a
  of_fields : {a r : Schema} {p q : _} → IsValue several (Beside' p a q r) (Tuple' several p a q r)
