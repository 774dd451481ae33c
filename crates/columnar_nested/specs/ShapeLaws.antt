-- Trees of one shape: other values at the same nodes.
use Rattle.std.proofs.Common.{◌≡◌, ℕ, zero, suc, ◌+◌, ◌-◌, Bool, true, false, cond, List, [], ◌∷◌, map, length, refl, sym, ◌∙◌, ap, subst, arith, append-nil}
use Rattle.std.specs.Prelude.{nat_eq}
use Rattle.columnar_base.specs.Row.{Row, more, unit, list}
use Rattle.columnar_nested.specs.Forest.{Forest, no_trees, tree_and, Node, width, level_order}
use Rattle.columnar_nested.specs.Layout.{IsLayout, IsTreeRule, nodes, values_of, kid_counts, totals, starts, kid_ends}
use Rattle.columnar_nested.specs.Reading.{first_trees, later_trees, pending, trees_from, trees_of}
use Rattle.columnar_nested.specs.LayoutLaws.{layout_read, layout_rule, passed_layout, rule_passed}
use Rattle.columnar_nested.specs.NodeLaws.{starts-length}
use Rattle.columnar_nested.specs.TreeRows.{tree_rows, tree_row, bare_tree}

-- the same trees, with f applied to each value
abbrev pub forest_map : {A B : Type 0} → (A → B) → Forest A → Forest B
forest_map f no_trees = no_trees
forest_map f (tree_and v k r) = tree_and (f v) (forest_map f k) (forest_map f r)

first-map : {A B : Type 0} (f : A → B) (n : ℕ) (ts : Forest A) → first_trees n (forest_map f ts) ≡ forest_map f (first_trees n ts)
first-map f zero ts = refl
first-map f (suc n) no_trees = refl
first-map f (suc n) (tree_and v k r) = ap (tree_and (f v) (forest_map f k)) (first-map f n r)

later-map : {A B : Type 0} (f : A → B) (n : ℕ) (ts : Forest A) → later_trees n (forest_map f ts) ≡ forest_map f (later_trees n ts)
later-map f zero ts = refl
later-map f (suc n) no_trees = refl
later-map f (suc n) (tree_and v k r) = later-map f n r

cond-map : {A B : Type 0} (f : A → B) (b : Bool) (x y : Forest A) → cond b (forest_map f x) (forest_map f y) ≡ forest_map f (cond b x y)
cond-map f true x y = refl
cond-map f false x y = refl

-- other values at the same nodes read as trees of the same shape
pending-map : {A B : Type 0} (f : A → B) (j b : ℕ) (bs : List ℕ) (vs : List A) → pending j b bs (map f vs) ≡ forest_map f (pending j b bs vs)
pending-map f j b [] vs = refl
pending-map f j b (c ∷ cs) [] = refl
pending-map f j b (c ∷ cs) (v ∷ vs) =
    let h = pending-map f (suc j) c cs vs in
    let l = later-map f (b - suc j) (pending (suc j) c cs vs) in
    let e = first-map f (b - suc j) (pending (suc j) c cs vs) in
    rw (h, l, e) (cond-map f (nat_eq b j) no_trees (tree_and v (later_trees (b - suc j) (pending (suc j) c cs vs)) (first_trees (b - suc j) (pending (suc j) c cs vs))))

trees_from-map : {A B : Type 0} (f : A → B) (j b : ℕ) (bs : List ℕ) (vs : List A) → trees_from j b bs (map f vs) ≡ forest_map f (trees_from j b bs vs)
trees_from-map f j b [] vs = refl
trees_from-map f j b (c ∷ cs) [] = refl
trees_from-map f j b (c ∷ cs) (v ∷ vs) =
    let h = pending-map f (suc j) c cs vs in
    let t = trees_from-map f (suc j) c cs vs in
    rw (h, t) (cond-map f (nat_eq b j) (tree_and v (pending (suc j) c cs vs) (trees_from (suc j) c cs vs)) (trees_from (suc j) c cs vs))

pub trees_of-map : {A B : Type 0} (f : A → B) (bs : List ℕ) (vs : List A) → trees_of bs (map f vs) ≡ forest_map f (trees_of bs vs)
trees_of-map f [] vs = refl
trees_of-map f (b ∷ bs) vs = trees_from-map f 0 b bs vs

-- the row of the shape of a tree
pub bare_rows : (f : Forest Row) → bare_tree (list (tree_rows f)) ≡ list (tree_rows (forest_map (λ v. unit) f))
bare_rows no_trees = refl
bare_rows (tree_and v k r) =
    let a = bare_rows k in
    let b = bare_rows r in
    cc

map-unit : (xs ys : List Row) → length xs ≡ length ys → map (λ (v : Row). unit) xs ≡ map (λ (v : Row). unit) ys
map-unit [] [] e = refl
map-unit [] (y ∷ ys) e = absurd (omega (arith, e))
map-unit (x ∷ xs) [] e = absurd (omega (arith, e))
map-unit (x ∷ xs) (y ∷ ys) e = ap (λ t. unit ∷ t) (map-unit xs ys (omega (arith, e)))

-- one tree
one_tree : {A : Type 0} (f : Forest A) → width f ≡ 1 → (n : Node A) × (f ≡ tree_and n.value n.kids no_trees)
one_tree no_trees e = absurd (omega (arith, e))
one_tree (tree_and v k no_trees) e = (record { value = v; kids = k }, refl)
one_tree (tree_and v k (tree_and w l r)) e = absurd (omega (arith, e))

totals-same : (from : ℕ) (cs ds : List ℕ) → totals from cs ≡ totals from ds → cs ≡ ds
totals-same from [] [] e = refl
totals-same from [] (d ∷ ds) e = cc
totals-same from (c ∷ cs) [] e = cc
totals-same from (c ∷ cs) (d ∷ ds) e =
    let a : from + c ≡ from + d = cc in
    let s : c ≡ d = omega (arith, a) in
    let b : totals (from + c) cs ≡ totals (from + d) ds = cc in
    let t : totals (from + d) cs ≡ totals (from + d) ds = rw a at b in
    let u = totals-same (from + d) cs ds t in
    rw (s, u) refl

-- a tree with other values at the same nodes
pub record Refit (n : Node Row) (vs : List Row) : Type 0 where
  pub is : Node Row
  pub values : values_of (level_order (tree_and is.value is.kids no_trees)) ≡ vs
  pub counts : kid_counts (level_order (tree_and is.value is.kids no_trees)) ≡ kid_counts (level_order (tree_and n.value n.kids no_trees))
  pub shape : bare_tree (tree_row is) ≡ bare_tree (tree_row n)

alone : {A : Type 0} (v : A) (k : Forest A) → nodes (tree_and v k no_trees) ≡ level_order (tree_and v k no_trees)
alone v k = append-nil (level_order (tree_and v k no_trees))

alone_ends : {A : Type 0} (v : A) (k : Forest A) → kid_ends 0 (tree_and v k no_trees) ≡ totals 1 (kid_counts (level_order (tree_and v k no_trees)))
alone_ends v k = append-nil (totals 1 (kid_counts (level_order (tree_and v k no_trees))))

layout_self : {A : Type 0} (ts : Forest A) → IsLayout ts (starts 0 ts) (0 ∷ kid_ends 0 ts) (values_of (nodes ts))
layout_self ts = record { at_starts = refl; at_ends = refl; in_order = refl }

more-first : (r s t u : Row) → more r s ≡ more t u → r ≡ t
more-first r s t u e = cc

refit_of : (n g : Node Row) (vs : List Row) → IsLayout (tree_and g.value g.kids no_trees) (starts 0 (tree_and n.value n.kids no_trees)) (0 ∷ kid_ends 0 (tree_and n.value n.kids no_trees)) vs
    → length vs ≡ length (values_of (nodes (tree_and n.value n.kids no_trees))) → Refit n vs
refit_of n g vs l e =
    let b : List ℕ = 0 ∷ kid_ends 0 (tree_and n.value n.kids no_trees) in
    let one : trees_of b vs ≡ tree_and g.value g.kids no_trees = layout_read l in
    let two : trees_of b (values_of (nodes (tree_and n.value n.kids no_trees))) ≡ tree_and n.value n.kids no_trees = layout_read (layout_self (tree_and n.value n.kids no_trees)) in
    let u = map-unit vs (values_of (nodes (tree_and n.value n.kids no_trees))) e in
    let m : forest_map (λ (v : Row). unit) (tree_and g.value g.kids no_trees) ≡ forest_map (λ (v : Row). unit) (tree_and n.value n.kids no_trees) =
    ap (forest_map (λ (v : Row). unit)) (sym one) ∙ (sym (trees_of-map (λ (v : Row). unit) b vs) ∙ (ap (trees_of b) u ∙ (trees_of-map (λ (v : Row). unit) b (values_of (nodes (tree_and n.value n.kids no_trees))) ∙ ap (forest_map (λ (v : Row). unit)) two))) in
    let s : bare_tree (list (tree_rows (tree_and g.value g.kids no_trees))) ≡ bare_tree (list (tree_rows (tree_and n.value n.kids no_trees))) =
    bare_rows (tree_and g.value g.kids no_trees) ∙ (ap (λ x. list (tree_rows x)) m ∙ sym (bare_rows (tree_and n.value n.kids no_trees))) in
    let t : 0 ∷ kid_ends 0 (tree_and n.value n.kids no_trees) ≡ 0 ∷ kid_ends 0 (tree_and g.value g.kids no_trees) = l.at_ends in
    let q : kid_ends 0 (tree_and g.value g.kids no_trees) ≡ kid_ends 0 (tree_and n.value n.kids no_trees) = cc in
    record {
      is = g;
      values = sym (l.in_order ∙ ap values_of (alone g.value g.kids));
      counts = totals-same 1 _ _ (sym (alone_ends g.value g.kids) ∙ (q ∙ alone_ends n.value n.kids));
      shape = more-first _ _ _ _ s;
    }

pub refit : (n : Node Row) (vs : List Row) → length vs ≡ length (values_of (level_order (tree_and n.value n.kids no_trees))) → Refit n vs
refit n vs e =
    let a : length vs ≡ length (values_of (nodes (tree_and n.value n.kids no_trees))) = e ∙ ap (λ x. length (values_of x)) (sym (alone n.value n.kids)) in
    let r : IsTreeRule (starts 0 (tree_and n.value n.kids no_trees)) (0 ∷ kid_ends 0 (tree_and n.value n.kids no_trees)) (length (values_of (nodes (tree_and n.value n.kids no_trees)))) = layout_rule (layout_self (tree_and n.value n.kids no_trees)) in
    let l : IsLayout (trees_of (0 ∷ kid_ends 0 (tree_and n.value n.kids no_trees)) vs) (starts 0 (tree_and n.value n.kids no_trees)) (0 ∷ kid_ends 0 (tree_and n.value n.kids no_trees)) vs = passed_layout (rule_passed (subst (λ m. IsTreeRule (starts 0 (tree_and n.value n.kids no_trees)) (0 ∷ kid_ends 0 (tree_and n.value n.kids no_trees)) m) (sym a) r)) in
    let w : suc (width (trees_of (0 ∷ kid_ends 0 (tree_and n.value n.kids no_trees)) vs)) ≡ suc 1 = sym (starts-length 0 (trees_of (0 ∷ kid_ends 0 (tree_and n.value n.kids no_trees)) vs)) ∙ (ap length (sym l.at_starts) ∙ starts-length 0 (tree_and n.value n.kids no_trees)) in
    let o = one_tree (trees_of (0 ∷ kid_ends 0 (tree_and n.value n.kids no_trees)) vs) (omega (arith, w)) in
    refit_of n o.0 vs (subst (λ x. IsLayout x (starts 0 (tree_and n.value n.kids no_trees)) (0 ∷ kid_ends 0 (tree_and n.value n.kids no_trees)) vs) o.1 l) a
