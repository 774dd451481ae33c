-- Iterating over lists in order.
use Rattle.std.specs.Prelude.{List, ◌∷◌, ◌≡◌, ◌≤◌, length, slice_get, Some}
use Rattle.columnar_base.specs.Row.{Row}
use Rattle.columnar_core.specs.Bounds.{numbers}
use Rattle.columnar_lists.specs.declared.walk.Ranges.{Ranges}

-- the iteration is before one of the lists of these bounds, or after the last
pub record WalkStands (rs : List Row) (place : Ranges) : Type 0 where
  pub count : place.count ≡ length rs
  pub within : place.index ≤ length rs
  pub start : slice_get (0 ∷ numbers rs) place.index ≡ Some place.start
