-- A walk over the nodes of a layout: at node j the trees q of the current tree remain, and after it the trees ts.
use Rattle.std.proofs.Common.{◌≡◌, ℕ, zero, suc, ◌+◌, ◌-◌, ◌<◌, List, [], ◌∷◌, ◌++◌, length, refl, ◌∙◌, ap, arith}
use Rattle.columnar_nested.specs.Forest.{Forest, no_trees, tree_and, Node, width, level_order}
use Rattle.columnar_nested.specs.Layout.{nodes, kid_counts, totals, starts, kid_ends}
use Rattle.columnar_nested.specs.ForestLaws.{joined_forest, width-joined, level_order-tree}

unfoldable pub walk_nodes : {A : Type 0} → Forest A → Forest A → List (Node A)
walk_nodes q ts = level_order q ++ nodes ts

unfoldable pub walk_ends : {A : Type 0} → ℕ → Forest A → Forest A → List ℕ
walk_ends j q ts = totals (j + width q) (kid_counts (level_order q)) ++ kid_ends (j + length (level_order q)) ts

unfoldable pub walk_starts : {A : Type 0} → ℕ → Forest A → Forest A → List ℕ
walk_starts j q ts = starts (j + length (level_order q)) ts

pub nodes-root : {A : Type 0} (v : A) (k r : Forest A) → walk_nodes no_trees (tree_and v k r) ≡ record { value = v; kids = k } ∷ walk_nodes k r
unfolding walk_nodes
nodes-root v k r = ap (λ x. x ++ nodes r) (level_order-tree v k no_trees)

pub nodes-next : {A : Type 0} (v : A) (k r ts : Forest A) → walk_nodes (tree_and v k r) ts ≡ record { value = v; kids = k } ∷ walk_nodes (joined_forest r k) ts
unfolding walk_nodes
nodes-next v k r ts = ap (λ x. x ++ nodes ts) (level_order-tree v k r)

pub ends-root : {A : Type 0} (j : ℕ) (v : A) (k r : Forest A) → walk_ends j no_trees (tree_and v k r) ≡ (suc j + width k) ∷ walk_ends (suc j) k r
unfolding walk_ends
ends-root j v k r =
    let z : j + 0 ≡ j = omega arith in
    let l : j + suc (length (level_order k)) ≡ suc j + length (level_order k) = omega arith in
    let e = level_order-tree v k no_trees in
    let one : kid_ends (j + 0) (tree_and v k r) ≡ kid_ends j (tree_and v k r) = ap (λ x. kid_ends x (tree_and v k r)) z in
    let two : kid_ends j (tree_and v k r) ≡ totals (suc j) (width k ∷ kid_counts (level_order k)) ++ kid_ends (j + suc (length (level_order k))) r =
    ap (λ x. totals (suc j) (kid_counts x) ++ kid_ends (j + length x) r) e in
    one ∙ (two ∙ ap (λ x. totals (suc j) (width k ∷ kid_counts (level_order k)) ++ kid_ends x r) l)

pub ends-next : {A : Type 0} (j : ℕ) (v : A) (k r ts : Forest A) → walk_ends j (tree_and v k r) ts ≡ (suc j + width (joined_forest r k)) ∷ walk_ends (suc j) (joined_forest r k) ts
unfolding walk_ends
ends-next j v k r ts =
    let w = width-joined r k in
    let m : (j + suc (width r)) + width k ≡ suc j + width (joined_forest r k) = omega arith in
    let l : j + suc (length (level_order (joined_forest r k))) ≡ suc j + length (level_order (joined_forest r k)) = omega arith in
    let one : walk_ends j (tree_and v k r) ts ≡ totals (j + suc (width r)) (width k ∷ kid_counts (level_order (joined_forest r k))) ++ kid_ends (j + suc (length (level_order (joined_forest r k)))) ts =
    ap (λ x. totals (j + suc (width r)) (kid_counts x) ++ kid_ends (j + length x) ts) (level_order-tree v k r) in
    let two : totals (j + suc (width r)) (width k ∷ kid_counts (level_order (joined_forest r k))) ++ kid_ends (j + suc (length (level_order (joined_forest r k)))) ts
    ≡ (suc j + width (joined_forest r k)) ∷ (totals (suc j + width (joined_forest r k)) (kid_counts (level_order (joined_forest r k))) ++ kid_ends (j + suc (length (level_order (joined_forest r k)))) ts) =
    ap (λ x. x ∷ (totals x (kid_counts (level_order (joined_forest r k))) ++ kid_ends (j + suc (length (level_order (joined_forest r k)))) ts)) m in
    one ∙ (two ∙ ap (λ x. (suc j + width (joined_forest r k)) ∷ (totals (suc j + width (joined_forest r k)) (kid_counts (level_order (joined_forest r k))) ++ kid_ends x ts)) l)

pub starts-root : {A : Type 0} (j : ℕ) (v : A) (k r : Forest A) → walk_starts j no_trees (tree_and v k r) ≡ j ∷ walk_starts (suc j) k r
unfolding walk_starts
starts-root j v k r =
    let z : j + 0 ≡ j = omega arith in
    let l : j + suc (length (level_order k)) ≡ suc j + length (level_order k) = omega arith in
    ap (λ x. starts x (tree_and v k r)) z ∙ (ap (λ x. j ∷ starts (j + length x) r) (level_order-tree v k no_trees) ∙ ap (λ x. j ∷ starts x r) l)

pub starts-next : {A : Type 0} (j : ℕ) (v : A) (k r ts : Forest A) → walk_starts j (tree_and v k r) ts ≡ walk_starts (suc j) (joined_forest r k) ts
unfolding walk_starts
starts-next j v k r ts =
    let l : j + suc (length (level_order (joined_forest r k))) ≡ suc j + length (level_order (joined_forest r k)) = omega arith in
    ap (λ x. starts (j + length x) ts) (level_order-tree v k r) ∙ ap (λ x. starts x ts) l

pub nodes-done : (A : Type 0) → walk_nodes {A = A} no_trees no_trees ≡ []
unfolding walk_nodes
nodes-done A = refl

pub ends-done : (A : Type 0) (j : ℕ) → walk_ends {A = A} j no_trees no_trees ≡ []
unfolding walk_ends
ends-done A j = refl

pub starts-done : (A : Type 0) (j : ℕ) → walk_starts {A = A} j no_trees no_trees ≡ j ∷ []
unfolding walk_starts
starts-done A j = let z : j + 0 ≡ j = omega arith in ap (λ x. x ∷ []) z

-- a whole layout is a walk from node 0 with nothing pending
pub walk_nodes-whole : {A : Type 0} (ts : Forest A) → walk_nodes no_trees ts ≡ nodes ts
unfolding walk_nodes
walk_nodes-whole ts = refl

pub walk_ends-whole : {A : Type 0} (ts : Forest A) → walk_ends 0 no_trees ts ≡ kid_ends 0 ts
unfolding walk_ends
walk_ends-whole ts = refl

pub walk_starts-whole : {A : Type 0} (ts : Forest A) → walk_starts 0 no_trees ts ≡ starts 0 ts
unfolding walk_starts
walk_starts-whole ts = refl

abbrev size : {A : Type 0} → Forest A → ℕ
size no_trees = 0
size (tree_and v k r) = suc (size k + size r)

size-joined : {A : Type 0} (f g : Forest A) → size (joined_forest f g) ≡ size f + size g
size-joined no_trees g = omega arith
size-joined (tree_and v k r) g = let e = size-joined r g in omega arith

-- a property holds all along a walk if it holds at its end, and at each node if it holds at the next
module _ {A : Type 0} (P : ℕ → Forest A → Forest A → Type 0)
    (done : (j : ℕ) → P j no_trees no_trees)
    (root : (j : ℕ) (v : A) (k r : Forest A) → P (suc j) k r → P j no_trees (tree_and v k r))
    (next : (j : ℕ) (v : A) (k r ts : Forest A) → P (suc j) (joined_forest r k) ts → P j (tree_and v k r) ts) where
  walk_within : (n j : ℕ) (q ts : Forest A) → size q + size ts < n → P j q ts
  walk_within zero j q ts h = absurd (omega arith)
  walk_within (suc n) j no_trees no_trees h = done j
  walk_within (suc n) j no_trees (tree_and v k r) h = root j v k r (walk_within n (suc j) k r (omega arith))
  walk_within (suc n) j (tree_and v k r) ts h =
      let e = size-joined r k in
      next j v k r ts (walk_within n (suc j) (joined_forest r k) ts (omega arith))

  pub walk_all : (j : ℕ) (q ts : Forest A) → P j q ts
  walk_all j q ts = walk_within (suc (size q + size ts)) j q ts (omega arith)
