-- Trees, and their nodes level by level.
use Rattle.std.specs.Prelude.{ℕ, suc, List, [], ◌∷◌, ◌++◌}

-- a list of trees: empty, or a tree (its value and its children) and the rest
pub data Forest (A : Type 0) : Type 0 where
  no_trees : Forest A
  tree_and : A → Forest A → Forest A → Forest A

-- a node of a tree, with all nodes below it
pub record Node (A : Type 0) : Type 0 where
  pub value : A
  pub kids : Forest A

-- the number of trees
abbrev pub width : {A : Type 0} → Forest A → ℕ
width no_trees = 0
width (tree_and v k r) = suc (width r)

-- the roots
abbrev pub roots : {A : Type 0} → Forest A → List (Node A)
roots no_trees = []
roots (tree_and v k r) = record { value = v; kids = k } ∷ roots r

-- the levels of two forests, joined level by level
abbrev pub side_by_side : {X : Type 0} → List (List X) → List (List X) → List (List X)
side_by_side [] ys = ys
side_by_side (x ∷ xs) [] = x ∷ xs
side_by_side (x ∷ xs) (y ∷ ys) = (x ++ y) ∷ side_by_side xs ys

-- level 0 has the roots, level 1 their children, and so on
abbrev pub levels : {A : Type 0} → Forest A → List (List (Node A))
levels no_trees = []
levels (tree_and v k r) = side_by_side ((record { value = v; kids = k } ∷ []) ∷ levels k) (levels r)

-- lists one after another
abbrev pub in_line : {X : Type 0} → List (List X) → List X
in_line [] = []
in_line (x ∷ xs) = x ++ in_line xs

-- all nodes: level 0, then level 1, and so on
abbrev pub level_order : {A : Type 0} → Forest A → List (Node A)
level_order f = in_line (levels f)
