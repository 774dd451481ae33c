-- Trees as rows: a tree is its value and the list of its children.
use Rattle.std.specs.Prelude.{List, [], ◌∷◌, Bool, ◌&&◌}
use Rattle.columnar_base.specs.Row.{Row, tree, more, unit, list, items_of, row_eq}
use Rattle.columnar_base.specs.Format.{all_alike}
use Rattle.columnar_nested.specs.Forest.{Forest, no_trees, tree_and, Node}
use Rattle.columnar_nested.specs.Layout.{nodes, values_of}

-- the trees, each a row
abbrev pub tree_rows : Forest Row → List Row
tree_rows no_trees = []
tree_rows (tree_and v k r) = tree v (list (tree_rows k)) ∷ tree_rows r

-- the row of a node with all nodes below it
abbrev pub tree_row : Node Row → Row
tree_row n = tree n.value (list (tree_rows n.kids))

-- the value of a tree; its children
abbrev pub tree_value : Row → Row
tree_value (tree v ks) = v
tree_value _ = unit

abbrev pub kids_of : Row → List Row
kids_of (tree v ks) = items_of ks
kids_of _ = []

-- the trees of a list of rows, with this list as one row
abbrev mutual
  pub forest_at : Row → Forest Row → Forest Row
  forest_at (tree v ks) f = tree_and v (forest_in ks) f
  forest_at _ f = f

  pub forest_in : Row → Forest Row
  forest_in (more r rs) = forest_at r (forest_in rs)
  forest_in _ = no_trees

-- the values of all trees, level by level, tree after tree
abbrev pub level_values : List Row → List Row
level_values rs = values_of (nodes (forest_in (list rs)))

-- a tree with the unit in place of each value
abbrev pub bare_tree : Row → Row
bare_tree (tree v ks) = tree unit (bare_tree ks)
bare_tree (more r rs) = more (bare_tree r) (bare_tree rs)
bare_tree r = r

-- both trees have the same shape, and their values are alike, level by level
abbrev pub tree_alike : (Row → Row → Bool) → Row → Row → Bool
tree_alike same r s = row_eq (bare_tree r) (bare_tree s) && all_alike same (level_values (r ∷ [])) (level_values (s ∷ []))
