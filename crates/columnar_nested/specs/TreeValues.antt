-- The trees of the code, as forests of the rows of their values.
use Rattle.std.specs.Prelude.{ℕ, List, [], ◌∷◌, map, length, ◌+◌}
use Rattle.columnar_base.specs.Row.{Row}
use Rattle.columnar_nested.specs.Forest.{Forest, no_trees, tree_and, Node, level_order}
use Rattle.columnar_nested.specs.Layout.{values_of, kid_counts, totals}
use Rattle.columnar_nested.specs.TreeRows.{tree_row}
use Rattle.columnar_nested.specs.declared.tree.Tree.{Tree}
use Rattle.columnar_nested.specs.declared.tree.Tree.TheOpen.{Tree-F}
use Rattle.columnar_nested.specs.declared.tree.Tree.TheFolds.{fold-Tree}

-- a list of nodes, as a forest
abbrev pub forest_of : {A : Type 0} → List (Node A) → Forest A
forest_of [] = no_trees
forest_of (n ∷ ns) = tree_and n.value n.kids (forest_of ns)

-- m gives the row of a value
abbrev pub node_step : {T B : Type 0} → (T → B) → Tree-F T (Node B) → Node B
node_step m t = record { value = m t.value; kids = forest_of t.kids.items }

-- a tree, as its root with all nodes below it
abbrev pub node_of : {T B : Type 0} → (T → B) → Tree T → Node B
node_of {T = T} {B = B} m = fold-Tree T (Node B) (node_step m)

-- a list of trees, as a forest
abbrev pub trees_as_forest : {T B : Type 0} → (T → B) → List (Tree T) → Forest B
trees_as_forest m ts = forest_of (map (node_of m) ts)

-- their nodes, level by level
abbrev pub in_order : {T B : Type 0} → (T → B) → List (Tree T) → List (Node B)
in_order m ts = level_order (trees_as_forest m ts)

-- the values of a list of trees, level by level
abbrev pub added_values : {T B : Type 0} → (T → B) → List (Tree T) → List B
added_values m ts = values_of (in_order m ts)

-- the bounds that a list of pending trees adds, if `at` is the number of the next node
abbrev pub added_bounds : {T B : Type 0} → (T → B) → ℕ → List (Tree T) → List ℕ
added_bounds m at ts = totals (at + length ts) (kid_counts (in_order m ts))

-- the values of one tree, level by level
abbrev pub values_in : {T : Type 0} → Tree T → List T
values_in t = added_values (λ x. x) (t ∷ [])

-- the row of a tree
abbrev pub tree_meaning : {T : Type 0} → (T → Row) → Tree T → Row
tree_meaning m t = tree_row (node_of m t)
