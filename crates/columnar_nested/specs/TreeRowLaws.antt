use Rattle.std.proofs.Common.{◌≡◌, ℕ, suc, ◌+◌, Bool, List, [], ◌∷◌, ◌++◌, map, length, refl, ◌∙◌, ap, append-nil}
use Rattle.std.specs.Prelude.{slice_get, Some}
use Rattle.std.proofs.lemmas.Bool.{and_parts, and_from}
use Rattle.std.proofs.lemmas.List.{map-append}
use Rattle.std.proofs.lemmas.Option.{slice_get-map}
use Rattle.columnar_base.specs.Row.{Row, tree, more, list, items_of, row_eq}
use Rattle.columnar_base.specs.RowLaws.{items_of-list}
use Rattle.columnar_base.specs.Format.{all_alike, IsSame}
use Rattle.columnar_base.specs.AlikeLaws.{row_eq_same, same_pulled, alike_all, alike_back, alike_on}
use Rattle.columnar_nested.specs.Forest.{Forest, no_trees, tree_and, Node, width, roots, level_order}
use Rattle.columnar_nested.specs.Layout.{nodes, values_of}
use Rattle.columnar_nested.specs.ForestLaws.{joined_forest}
use Rattle.columnar_nested.specs.TreeRows.{tree_rows, tree_row, kids_of, forest_in, level_values, bare_tree, tree_alike}

pub tree_rows-joined : (f g : Forest Row) → tree_rows (joined_forest f g) ≡ tree_rows f ++ tree_rows g
tree_rows-joined no_trees g = refl
tree_rows-joined (tree_and v k r) g = ap (λ x. tree v (list (tree_rows k)) ∷ x) (tree_rows-joined r g)

pub tree_rows-roots : (f : Forest Row) → tree_rows f ≡ map tree_row (roots f)
tree_rows-roots no_trees = refl
tree_rows-roots (tree_and v k r) = ap (λ x. tree v (list (tree_rows k)) ∷ x) (tree_rows-roots r)

pub length-tree_rows : (f : Forest Row) → length (tree_rows f) ≡ width f
length-tree_rows no_trees = refl
length-tree_rows (tree_and v k r) = ap suc (length-tree_rows r)

-- tree i of a list of trees
pub tree_rows_get : (f : Forest Row) (i : ℕ) (n : Node Row) → slice_get (roots f) i ≡ Some n → slice_get (tree_rows f) i ≡ Some (tree_row n)
tree_rows_get f i n h = rw (tree_rows-roots f, slice_get-map, h) refl

-- the children of a node
pub kids_are : (n : Node Row) → kids_of (tree_row n) ≡ tree_rows n.kids
kids_are n = items_of-list (tree_rows n.kids)

pub length-kids : (n : Node Row) → length (kids_of (tree_row n)) ≡ width n.kids
length-kids n = ap length (kids_are n) ∙ length-tree_rows n.kids

-- trees are read back from their rows
pub forest_back : (f : Forest Row) → forest_in (list (tree_rows f)) ≡ f
forest_back no_trees = refl
forest_back (tree_and v k r) =
    let a = forest_back k in
    let b = forest_back r in
    cc

-- the values of a tree, then of the rows after it
pub level_values-more : (n : Node Row) (rs : List Row) → level_values (tree_row n ∷ rs) ≡ values_of (level_order (tree_and n.value n.kids no_trees)) ++ level_values rs
level_values-more n rs =
    let k = forest_back n.kids in
    rw k (map-append (λ x. x.value) (level_order (tree_and n.value n.kids no_trees)) (nodes (forest_in (list rs))))

pub level_values-one : (n : Node Row) → level_values (tree_row n ∷ []) ≡ values_of (level_order (tree_and n.value n.kids no_trees))
level_values-one n = level_values-more n [] ∙ append-nil (values_of (level_order (tree_and n.value n.kids no_trees)))

-- alike trees
pub tree_same : (same : Row → Row → Bool) → IsSame same → IsSame (tree_alike same)
tree_same same e =
    let p = same_pulled row_eq bare_tree row_eq_same in
    record {
      reflexive = λ r. and_from _ _ (p.reflexive r) (alike_all same e (level_values (r ∷ [])));
      symmetric = λ r s h. let u = and_parts (row_eq (bare_tree r) (bare_tree s)) (all_alike same (level_values (r ∷ [])) (level_values (s ∷ []))) h in
          and_from _ _ (p.symmetric r s u.0) (alike_back same e (level_values (r ∷ [])) (level_values (s ∷ [])) u.1);
      transitive = λ r s t h k.
          let u = and_parts (row_eq (bare_tree r) (bare_tree s)) (all_alike same (level_values (r ∷ [])) (level_values (s ∷ []))) h in
          let w = and_parts (row_eq (bare_tree s) (bare_tree t)) (all_alike same (level_values (s ∷ [])) (level_values (t ∷ []))) k in
          and_from _ _ (p.transitive r s t u.0 w.0) (alike_on same e (level_values (r ∷ [])) (level_values (s ∷ [])) (level_values (t ∷ [])) u.1 w.1);
    }

-- child i of a node
pub kid_row : (n : Node Row) (i : ℕ) {k : Node Row} → slice_get (roots n.kids) i ≡ Some k → slice_get (kids_of (tree_row n)) i ≡ Some (tree_row k)
kid_row n i {k} h = ap (λ rs. slice_get rs i) (kids_are n) ∙ tree_rows_get n.kids i k h
