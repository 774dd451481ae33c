-- The total weight of the nodes of trees.
use Rattle.std.specs.Prelude.{ℕ, List, [], ◌∷◌, ◌+◌, drop}
use Rattle.columnar_nested.specs.Forest.{Node}
use Rattle.columnar_nested.specs.TreeValues.{in_order}
use Rattle.columnar_nested.specs.declared.tree.Tree.{Tree}

abbrev pub total : {X : Type 0} → (X → ℕ) → List X → ℕ
total h [] = 0
total h (x ∷ xs) = h x + total h xs

-- h gives the weight of a node
abbrev pub weight : {T : Type 0} → (Node T → ℕ) → List (Tree T) → ℕ
weight h ts = total h (in_order (λ x. x) ts)

-- the number of nodes
abbrev pub count : {T : Type 0} → List (Tree T) → ℕ
count ts = weight (λ n. 1) ts

-- the sum of the values of trees of numbers
abbrev pub value_sum : List (Tree ℕ) → ℕ
value_sum ts = weight (λ n. n.value) ts

-- the number of nodes that remain to be copied after n of a node's children
abbrev pub uncopied : {T : Type 0} → List (Tree T) → ℕ → ℕ
uncopied kids n = count (drop n kids)
