-- The trees of a layout, read from its end: the numbers of a node's children are greater than its own.
use Rattle.std.specs.Prelude.{ℕ, suc, zero, List, [], ◌∷◌, ◌-◌, nat_eq, cond}
use Rattle.columnar_nested.specs.Forest.{Forest, no_trees, tree_and}

-- the first n trees
abbrev pub first_trees : {A : Type 0} → ℕ → Forest A → Forest A
first_trees zero f = no_trees
first_trees (suc n) no_trees = no_trees
first_trees (suc n) (tree_and v k r) = tree_and v k (first_trees n r)

-- all trees except the first n
abbrev pub later_trees : {A : Type 0} → ℕ → Forest A → Forest A
later_trees zero f = f
later_trees (suc n) no_trees = no_trees
later_trees (suc n) (tree_and v k r) = later_trees n r

-- the trees whose roots are the nodes from j to the bound b of node j; none if a tree starts at j
abbrev pub pending : {A : Type 0} → ℕ → ℕ → List ℕ → List A → Forest A
pending j b [] vs = no_trees
pending j b (c ∷ cs) [] = no_trees
pending j b (c ∷ cs) (v ∷ vs) =
    cond (nat_eq b j) no_trees (tree_and v (later_trees (b - suc j) (pending (suc j) c cs vs)) (first_trees (b - suc j) (pending (suc j) c cs vs)))

-- the trees that start at node j or later
abbrev pub trees_from : {A : Type 0} → ℕ → ℕ → List ℕ → List A → Forest A
trees_from j b [] vs = no_trees
trees_from j b (c ∷ cs) [] = no_trees
trees_from j b (c ∷ cs) (v ∷ vs) =
    cond (nat_eq b j) (tree_and v (pending (suc j) c cs vs) (trees_from (suc j) c cs vs)) (trees_from (suc j) c cs vs)

abbrev pub trees_of : {A : Type 0} → List ℕ → List A → Forest A
trees_of [] vs = no_trees
trees_of (b ∷ bs) vs = trees_from 0 b bs vs
