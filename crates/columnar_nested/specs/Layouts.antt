-- The theorem: three lists satisfy the rule if and only if exactly one list of trees has that layout.
use Rattle.std.proofs.Common.{◌≡◌, ℕ, ◌-◌, true, List}
use Rattle.columnar_nested.specs.Forest.{Forest}
use Rattle.columnar_nested.specs.Layout.{IsLayout, bounds_keep, own_places}

-- exactly one list of trees has this layout
pub record IsOne {A : Type 0} (groups bounds : List ℕ) (values : List A) : Type 0 where
  pub trees : Forest A
  pub has : IsLayout trees groups bounds values
  pub only : (us : Forest A) → IsLayout us groups bounds values → us ≡ trees

-- the rule in one pass
pub record IsPassed (groups bounds : List ℕ) (n : ℕ) : Type 0 where
  pub keep : bounds_keep bounds n ≡ true
  pub at_own_places : groups ≡ own_places 0 bounds
