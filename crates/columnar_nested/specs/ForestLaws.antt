use Rattle.std.proofs.Common.{◌≡◌, ◌+◌, ◌-◌, List, [], ◌∷◌, ◌++◌, refl, sym, ◌∙◌, ap, arith, append_assoc, append-nil}
use Rattle.columnar_nested.specs.Forest.{Forest, no_trees, tree_and, width, side_by_side, levels, in_line, level_order}

-- two forests, one after the other
abbrev pub joined_forest : {A : Type 0} → Forest A → Forest A → Forest A
joined_forest no_trees g = g
joined_forest (tree_and v k r) g = tree_and v k (joined_forest r g)

pub joined-no_trees : {A : Type 0} (f : Forest A) → joined_forest f no_trees ≡ f
joined-no_trees no_trees = refl
joined-no_trees (tree_and v k r) = ap (tree_and v k) (joined-no_trees r)

pub width-joined : {A : Type 0} (f g : Forest A) → width (joined_forest f g) ≡ width f + width g
width-joined no_trees g = omega arith
width-joined (tree_and v k r) g = let e = width-joined r g in omega arith

pub beside-no_trees : {X : Type 0} (xs : List (List X)) → side_by_side xs [] ≡ xs
beside-no_trees [] = refl
beside-no_trees (x ∷ xs) = refl

pub beside-assoc : {X : Type 0} (xs ys zs : List (List X)) → side_by_side (side_by_side xs ys) zs ≡ side_by_side xs (side_by_side ys zs)
beside-assoc [] ys zs = refl
beside-assoc (x ∷ xs) [] zs = refl
beside-assoc (x ∷ xs) (y ∷ ys) [] = refl
beside-assoc (x ∷ xs) (y ∷ ys) (z ∷ zs) =
    let e : (x ++ y) ++ z ≡ x ++ (y ++ z) = append_assoc x y z in
    let r = beside-assoc xs ys zs in
    cc

pub levels-joined : {A : Type 0} (f g : Forest A) → levels (joined_forest f g) ≡ side_by_side (levels f) (levels g)
levels-joined no_trees g = refl
levels-joined (tree_and v k r) g =
    ap (side_by_side ((record { value = v; kids = k } ∷ []) ∷ levels k)) (levels-joined r g) ∙ sym (beside-assoc ((record { value = v; kids = k } ∷ []) ∷ levels k) (levels r) (levels g))

-- what is first in level 0 is first in all levels
pub in_line-first : {X : Type 0} (v x : List X) (xs ys : List (List X)) → in_line (side_by_side ((v ++ x) ∷ xs) ys) ≡ v ++ in_line (side_by_side (x ∷ xs) ys)
in_line-first v x xs [] = append_assoc v x (in_line xs)
in_line-first v x xs (y ∷ ys) =
    let e : (v ++ x) ++ y ≡ v ++ (x ++ y) = append_assoc v x y in
    let f : (v ++ (x ++ y)) ++ in_line (side_by_side xs ys) ≡ v ++ ((x ++ y) ++ in_line (side_by_side xs ys)) = append_assoc v (x ++ y) (in_line (side_by_side xs ys)) in
    cc

-- a forest one level down, after another one, reads as the two joined
pub in_line-turn : {X : Type 0} (xs ys : List (List X)) → in_line (side_by_side ([] ∷ xs) ys) ≡ in_line (side_by_side ys xs)
in_line-turn xs [] = refl
in_line-turn [] (y ∷ ys) = refl
in_line-turn (x ∷ xs) (y ∷ ys) =
    let a = in_line-first x [] xs ys in
    let n : x ++ [] ≡ x = append-nil x in
    let b = in_line-turn xs ys in
    let c : (y ++ x) ++ in_line (side_by_side ys xs) ≡ y ++ (x ++ in_line (side_by_side ys xs)) = append_assoc y x (in_line (side_by_side ys xs)) in
    cc

-- the root of the first tree, then the other trees, followed by its children
pub level_order-tree : {A : Type 0} (v : A) (k r : Forest A) → level_order (tree_and v k r) ≡ record { value = v; kids = k } ∷ level_order (joined_forest r k)
level_order-tree v k r =
    let a = in_line-first (record { value = v; kids = k } ∷ []) [] (levels k) (levels r) in
    let b = in_line-turn (levels k) (levels r) in
    let c = levels-joined r k in
    cc
