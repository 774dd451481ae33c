-- One step of the loop that pushes trees level by level; m gives the row of a value.
use Rattle.std.proofs.Common.{◌≡◌, ℕ, suc, ◌+◌, ◌<◌, List, [], ◌∷◌, ◌++◌, map, refl, ap, ◌∙◌, length, arith, sym, length-append}
use Rattle.std.proofs.lemmas.List.{length-map}
use Rattle.columnar_nested.specs.Forest.{tree_and, Node, width, level_order}
use Rattle.columnar_nested.specs.Layout.{values_of, kid_counts, totals}
use Rattle.columnar_nested.specs.ForestLaws.{joined_forest, level_order-tree}
use Rattle.columnar_nested.specs.TreeValues.{node_step, node_of, trees_as_forest, in_order, added_values, added_bounds}
use Rattle.columnar_nested.specs.declared.tree.Tree.{Tree}
use Rattle.columnar_nested.specs.declared.tree.Tree.TheViews.{out-Tree}
use Rattle.columnar_nested.specs.declared.tree.Tree.TheFolds.{fold_out-Tree}

pub node_of-out : (T B : Type 0) (m : T → B) (t : Tree T) → node_of m t ≡ record { value = m (out-Tree T t).value; kids = trees_as_forest m (out-Tree T t).kids.items }
node_of-out T B m = fold_out-Tree T (Node B) (node_step m)

pub as_forest-append : {T B : Type 0} (m : T → B) (ts us : List (Tree T)) → trees_as_forest m (ts ++ us) ≡ joined_forest (trees_as_forest m ts) (trees_as_forest m us)
as_forest-append m [] us = refl
as_forest-append m (t ∷ ts) us = ap (tree_and (node_of m t).value (node_of m t).kids) (as_forest-append m ts us)

pub width-as_forest : {T B : Type 0} (m : T → B) (ts : List (Tree T)) → width (trees_as_forest m ts) ≡ length ts
width-as_forest m [] = refl
width-as_forest m (t ∷ ts) = ap suc (width-as_forest m ts)

pub in_order-step : (T B : Type 0) (m : T → B) (t : Tree T) (ts : List (Tree T)) → in_order m (t ∷ ts) ≡ node_of m t ∷ in_order m (ts ++ (out-Tree T t).kids.items)
in_order-step T B m t ts =
    let o = node_of-out T B m t in
    let k : (node_of m t).kids ≡ trees_as_forest m (out-Tree T t).kids.items = ap (λ x. x.kids) o in
    let e = level_order-tree (node_of m t).value (node_of m t).kids (trees_as_forest m ts) in
    let j : joined_forest (trees_as_forest m ts) (node_of m t).kids ≡ trees_as_forest m (ts ++ (out-Tree T t).kids.items) = ap (joined_forest (trees_as_forest m ts)) k ∙ sym (as_forest-append m ts (out-Tree T t).kids.items) in
    e ∙ ap (λ x. node_of m t ∷ level_order x) j

-- the value of the first tree, then those of the other trees and of its children
pub turn_values : (T B : Type 0) (m : T → B) (t : Tree T) (ts : List (Tree T)) → added_values m (t ∷ ts) ≡ m (out-Tree T t).value ∷ added_values m (ts ++ (out-Tree T t).kids.items)
turn_values T B m t ts =
    let v : (node_of m t).value ≡ m (out-Tree T t).value = ap (λ x. x.value) (node_of-out T B m t) in
    ap values_of (in_order-step T B m t ts) ∙ ap (λ x. x ∷ added_values m (ts ++ (out-Tree T t).kids.items)) v

pub turn_bounds : (T B : Type 0) (m : T → B) (t : Tree T) (ts : List (Tree T)) (at b : ℕ) → b ≡ (at + length ts + 1) + length (out-Tree T t).kids.items
    → added_bounds m at (t ∷ ts) ≡ b ∷ added_bounds m (at + 1) (ts ++ (out-Tree T t).kids.items)
turn_bounds T B m t ts at b h =
    let k : width (node_of m t).kids ≡ length (out-Tree T t).kids.items = ap (λ x. width x.kids) (node_of-out T B m t) ∙ width-as_forest m (out-Tree T t).kids.items in
    let l = length-append ts (out-Tree T t).kids.items in
    let e : (at + suc (length ts)) + width (node_of m t).kids ≡ b = omega (arith, k, h) in
    let f : b ≡ (at + 1) + length (ts ++ (out-Tree T t).kids.items) = omega (arith, h, l) in
    ap (λ x. totals (at + suc (length ts)) (kid_counts x)) (in_order-step T B m t ts)
    ∙ (ap (λ x. x ∷ totals x (kid_counts (in_order m (ts ++ (out-Tree T t).kids.items)))) e
    ∙ ap (λ x. b ∷ totals x (kid_counts (in_order m (ts ++ (out-Tree T t).kids.items)))) f)

pub turn_fewer : (T B : Type 0) (m : T → B) (t : Tree T) (ts : List (Tree T)) → length (in_order m (ts ++ (out-Tree T t).kids.items)) < length (in_order m (t ∷ ts))
turn_fewer T B m t ts = let e = ap length (in_order-step T B m t ts) in omega (arith, e)

-- there are as many nodes as values, and at least as many as trees
pub count_values : {T B : Type 0} (m : T → B) (ts : List (Tree T)) → length (added_values m ts) ≡ length (in_order m ts)
count_values m ts = length-map (in_order m ts) (λ x. x.value)
