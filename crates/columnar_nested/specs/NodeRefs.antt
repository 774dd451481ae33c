-- A node of stored trees: its row, and what its reads require.
use Rattle.std.specs.Prelude.{ℕ, List, length}
use Rattle.columnar_base.specs.Row.{Row}
use Rattle.columnar_base.specs.Format.{Format, Content, IsSound}
use Rattle.columnar_base.specs.WordViews.{words_in}
use Rattle.columnar_nested.specs.Refs.{node_at, IsRef}
use Rattle.columnar_nested.specs.TreeRows.{tree_row}
use Rattle.columnar_nested.specs.declared.trees.read.TreesRef.{TreesRef}

-- its number among the nodes of its column
abbrev pub node_number : {V B : Type 0} → TreesRef V B → ℕ
node_number r = r.index

-- the row of the tree below it
abbrev pub ref_row : {V B : Type 0} → (B → List ℕ) → (V → List Row) → TreesRef V B → Row
ref_row bytes rows r = tree_row (node_at (words_in (bytes r.bounds)) (rows r.values) r.index)

-- Its values are sound, its bounds satisfy the rule of trees, and it has the right range of children.
pub record IsNodeOf (values : Format) (z : Content) (bounds : List ℕ) (index lower upper : ℕ) : Type 0 where
  pub sound : IsSound values z
  pub stands : IsRef bounds (length (values.rows z)) index lower upper

abbrev pub ref_valid : {V B : Type 0} → (B → List ℕ) → Format → (V → Content) → TreesRef V B → Type 0
ref_valid bytes values content r = IsNodeOf values (content r.values) (words_in (bytes r.bounds)) r.index r.lower r.upper
