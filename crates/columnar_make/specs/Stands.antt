-- Whether a JSON value of a line stands for the value that a row is written as.
use Rattle.std.specs.Prelude.{ℤ, ◌≡◌, ◌⊎◌, Some, None, MatchOption, is_some, true}
use Rattle.std.specs.Float.{binary64}
use Rattle.std.specs.Float.Ieee.{to_bits}
use Rattle.serde_json.specs.Data.{Num, Data, null, boolean, number, string, array, object, Items, no_items, item, Members, no_members, member}
use Rattle.serde_json.specs.Find.{as_integer, get, to_float}

-- both are the same integer, or the row's number is no integer and both are the same float
abbrev pub IsSameNumber : Num → Num → Type 0
IsSameNumber m n = ((z : ℤ) × ((as_integer m ≡ Some z) × (as_integer n ≡ Some z))) ⊎ ((as_integer n ≡ None) × (to_bits binary64 (to_float m) ≡ to_bits binary64 (to_float n)))

-- each member is one of the object
abbrev pub AreMembers : Members → Data → Type 0
AreMembers no_members e = Unit {0}
AreMembers (member k d ds) e = (is_some (get k e) ≡ true) × AreMembers ds e

-- The line's value stands for the row's: an integer may stand for a float, and a member that is null in the row may be
-- absent in the line.
abbrev mutual
  pub StandsFor : Data → Data → Type 0
  StandsFor d null = d ≡ null
  StandsFor d (boolean b) = d ≡ boolean b
  StandsFor d (number n) = (m : Num) × ((d ≡ number m) × IsSameNumber m n)
  StandsFor d (string s) = d ≡ string s
  StandsFor d (array es) = (ds : Items) × ((d ≡ array ds) × StandForItems ds es)
  StandsFor d (object es) = (ds : Members) × ((d ≡ object ds) × (HasMembers d es × AreMembers ds (object es)))

  pub StandForItems : Items → Items → Type 0
  StandForItems ds no_items = ds ≡ no_items
  StandForItems no_items (item e es) = ⊥
  StandForItems (item d ds) (item e es) = StandsFor d e × StandForItems ds es

  pub HasMembers : Data → Members → Type 0
  HasMembers d no_members = Unit {0}
  HasMembers d (member k e es) = MatchOption (get k d) (e ≡ null) (λ f. StandsFor f e) × HasMembers d es
