-- How trees are laid out as three lists, and which lists are such a layout.
use Rattle.std.specs.Prelude.{ℕ, suc, List, [], ◌∷◌, ◌++◌, map, length, ◌+◌, ◌≡◌, ◌≤◌, ◌<◌, Bool, false, ◌&&◌, nat_eq, nat_le, cond, slice_index}
use Rattle.columnar_nested.specs.Forest.{Forest, no_trees, tree_and, Node, width, level_order}

-- a list of trees: the nodes of each tree level by level, tree after tree
abbrev pub nodes : {A : Type 0} → Forest A → List (Node A)
nodes no_trees = []
nodes (tree_and v k r) = level_order (tree_and v k no_trees) ++ nodes r

abbrev pub values_of : {A : Type 0} → List (Node A) → List A
values_of ns = map (λ n. n.value) ns

abbrev pub kid_counts : {A : Type 0} → List (Node A) → List ℕ
kid_counts ns = map (λ n. width n.kids) ns

-- `from` plus the running sums of the counts
abbrev pub totals : ℕ → List ℕ → List ℕ
totals from [] = []
totals from (c ∷ cs) = (from + c) ∷ totals (from + c) cs

-- the number of the first node of each tree, then the number of all nodes
abbrev pub starts : {A : Type 0} → ℕ → Forest A → List ℕ
starts at no_trees = at ∷ []
starts at (tree_and v k r) = at ∷ starts (at + length (level_order (tree_and v k no_trees))) r

-- for each node: the start of its tree, plus 1, plus the numbers of children of the tree's nodes up to this one
abbrev pub kid_ends : {A : Type 0} → ℕ → Forest A → List ℕ
kid_ends at no_trees = []
kid_ends at (tree_and v k r) = totals (suc at) (kid_counts (level_order (tree_and v k no_trees))) ++ kid_ends (at + length (level_order (tree_and v k no_trees))) r

-- groups, bounds and values are the layout of the trees ts
pub record IsLayout {A : Type 0} (ts : Forest A) (groups bounds : List ℕ) (values : List A) : Type 0 where
  pub at_starts : groups ≡ starts 0 ts
  pub at_ends : bounds ≡ 0 ∷ kid_ends 0 ts
  pub in_order : values ≡ values_of (nodes ts)

-- the indices, from `place` on, of the numbers that equal their index
abbrev pub own_places : ℕ → List ℕ → List ℕ
own_places place [] = []
own_places place (b ∷ bs) = cond (nat_eq b place) (place ∷ own_places (suc place) bs) (own_places (suc place) bs)

-- the rule of layouts of n nodes
pub record IsTreeRule (groups bounds : List ℕ) (n : ℕ) : Type 0 where
  pub count : length bounds ≡ suc n
  pub first : slice_index bounds 0 ≡ 0
  pub last : slice_index bounds n ≡ n
  pub never_falls : (j : ℕ) → j < n → slice_index bounds j ≤ slice_index bounds (suc j)
  pub ahead : (j : ℕ) → j ≤ n → j ≤ slice_index bounds j
  pub at_own_places : groups ≡ own_places 0 bounds

-- the same in one pass: from node j on, whose bound is b, the bounds never decrease, are never below their index, and
-- end at n
abbrev pub keeps : ℕ → ℕ → List ℕ → ℕ → Bool
keeps j b [] n = nat_eq b n && nat_eq j n
keeps j b (c ∷ cs) n = (nat_le b c && nat_le (suc j) c) && keeps (suc j) c cs n

abbrev pub bounds_keep : List ℕ → ℕ → Bool
bounds_keep [] n = false
bounds_keep (b ∷ bs) n = nat_eq b 0 && keeps 0 b bs n
