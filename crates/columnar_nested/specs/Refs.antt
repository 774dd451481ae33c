-- A node that is read by its number.
use Rattle.std.specs.Prelude.{ℕ, suc, List, [], ◌∷◌, ◌<◌, ◌≤◌, ◌≡◌, slice_index, slice_index_or}
use Rattle.columnar_base.specs.Row.{Row, unit}
use Rattle.columnar_nested.specs.Forest.{no_trees, Node}
use Rattle.columnar_nested.specs.Layout.{IsTreeRule, nodes, own_places}
use Rattle.columnar_nested.specs.Reading.{trees_of}
use Rattle.columnar_nested.specs.Nodes.{first_kid}

-- node i of the trees of bounds and values
abbrev pub node_at : List ℕ → List Row → ℕ → Node Row
node_at bounds values i = slice_index_or (nodes (trees_of bounds values)) i (record { value = unit; kids = no_trees })

-- the children of node i are lower..upper, with bounds that satisfy the rule
pub record IsRef (bounds : List ℕ) (n i lower upper : ℕ) : Type 0 where
  pub rule : IsTreeRule (own_places 0 bounds) bounds n
  pub within : i < n
  pub low : lower ≡ first_kid i (slice_index bounds i)
  pub high : upper ≡ slice_index bounds (suc i)

-- k is a child of node i, by the bounds of i, as `child` finds it
abbrev pub IsKidOf : List ℕ → ℕ → ℕ → Type 0
IsKidOf bounds i k = (first_kid i (slice_index bounds i) ≤ k) × (k < slice_index bounds (suc i))

-- a walk down that continues from node i
abbrev pub IsWalkFrom : List ℕ → ℕ → List ℕ → Type 0
IsWalkFrom bounds i [] = Unit {0}
IsWalkFrom bounds i (k ∷ ks) = IsKidOf bounds i k × IsWalkFrom bounds k ks
