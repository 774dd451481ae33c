-- Their limit denies what columns of trees refuse.
use Rattle.std.proofs.Common.{◌≡◌, ◌+◌, true, ◌||◌, List, ◌++◌, length, refl, sym, ◌∙◌, ap, subst, inl, inr, ⊎_elim, length-append, append_assoc}
use Rattle.std.proofs.lemmas.Bool.{or_cases, false≢true}
use Rattle.std.proofs.lemmas.List.{map-append}
use Rattle.columnar_base.specs.Row.{Row}
use Rattle.columnar_base.specs.Format.{Format, Content, slice, both, part, plain, IsSound, Excess, refuses_more}
use Rattle.columnar_base.specs.TwoPartsLaws.{two_parts, two_form}
use Rattle.columnar_base.specs.Elements.{past_count}
use Rattle.columnar_base.specs.May.{Limit, IsLimited}
use Rattle.columnar_nested.specs.Forest.{Forest, no_trees, tree_and, level_order}
use Rattle.columnar_nested.specs.Layout.{IsLayout, nodes, values_of}
use Rattle.columnar_nested.specs.LayoutLaws.{passed_layout, rule_passed}
use Rattle.columnar_nested.specs.MayTrees.{nodes_limit, trees_limit}
use Rattle.columnar_nested.specs.Reading.{trees_of}
use Rattle.columnar_nested.specs.TreeRows.{tree_rows, level_values}
use Rattle.columnar_nested.specs.TreeRowLaws.{level_values-more}
use Rattle.columnar_nested.specs.Trees.{words_of, nodes_format, nodes_rows, trees_format, trees_rows}
use Rattle.columnar_nested.specs.TreesLaws.{nodes_two, trees_two, trees_parts, tree_last_end}

nodes_denied : (v : Format) {m : Limit} → IsLimited v m → (e : Excess) (c : Content) (rs : List Row) → IsSound (nodes_format v) c → refuses_more (nodes_format v) e c rs ≡ true → nodes_limit m e (nodes_rows v c ++ rs)
nodes_denied v {m} l e (both y z) rs s h =
    let p = two_parts (nodes_two v) y z s in
    ⊎_elim
    (λ (k : past_count e (length (v.rows z) + length rs) ≡ true). inl (ap (past_count e) (length-append (v.rows z) rs) ∙ k))
    (λ (k : refuses_more v e z rs ≡ true). inr (l.denied e z rs p.right k))
    (or_cases (past_count e (length (v.rows z) + length rs)) (refuses_more v e z rs) h)
nodes_denied v l e (slice bs) rs s h = absurd (false≢true h)
nodes_denied v l e (part i u x) rs s h = absurd (false≢true h)
nodes_denied v l e (plain us) rs s h = absurd (false≢true h)

pub nodes_limited : (v : Format) {m : Limit} → IsLimited v m → IsLimited (nodes_format v) (nodes_limit m)
nodes_limited v l = record { denied = nodes_denied v l }

-- the values of trees, then those of further trees
level_values-joined : (f : Forest Row) (rs : List Row) → level_values (tree_rows f ++ rs) ≡ values_of (nodes f) ++ level_values rs
level_values-joined no_trees rs = refl
level_values-joined (tree_and v k r) rs =
    let root : List Row = values_of (level_order (tree_and v k no_trees)) in
    level_values-more (record { value = v; kids = k }) (tree_rows r ++ rs)
    ∙ (ap (λ us. root ++ us) (level_values-joined r rs)
    ∙ (sym (append_assoc root (values_of (nodes r)) (level_values rs))
    ∙ ap (λ us. us ++ level_values rs) (sym (map-append (λ n. n.value) (level_order (tree_and v k no_trees)) (nodes r)))))

trees_denied : (v : Format) {m : Limit} → IsLimited v m → (e : Excess) (x y z : Content) (rs : List Row) → IsSound (trees_format v) (both x (both y z)) → refuses_more (trees_format v) e (both x (both y z)) rs ≡ true → trees_limit m e (trees_rows v (both x (both y z)) ++ rs)
trees_denied v {m} l e x y z rs s h =
    let p = trees_parts v x y z s in
    let f : Forest Row = trees_of (words_of y) (v.rows z) in
    let more : List Row = level_values rs in
    let lay : IsLayout f (words_of x) (words_of y) (v.rows z) = passed_layout (rule_passed p.rule) in
    let g : level_values (tree_rows f ++ rs) ≡ v.rows z ++ more = level_values-joined f rs ∙ ap (λ us. us ++ more) (sym lay.in_order) in
    let n : length (level_values (tree_rows f ++ rs)) ≡ length (v.rows z) + length more = ap length g ∙ length-append (v.rows z) more in
    let end = tree_last_end v x y z p in
    let w : (past_count e (length (tree_rows f) + length rs) || (past_count e (length (v.rows z) + length more) || refuses_more v e z more)) ≡ true =
    subst (λ k. (past_count e (length (tree_rows f) + length rs) || (past_count e (k + length more) || v.refuses e z k more)) ≡ true) end h in
    ⊎_elim
    (λ (k : past_count e (length (tree_rows f) + length rs) ≡ true). inl (ap (past_count e) (length-append (tree_rows f) rs) ∙ k))
    (λ (q : (past_count e (length (v.rows z) + length more) || refuses_more v e z more) ≡ true). inr (⊎_elim
    (λ (k : past_count e (length (v.rows z) + length more) ≡ true). inl (ap (past_count e) n ∙ k))
    (λ (k : refuses_more v e z more ≡ true). inr (subst (λ us. m e us) (sym g) (l.denied e z more p.values k)))
    (or_cases (past_count e (length (v.rows z) + length more)) (refuses_more v e z more) q)))
    (or_cases (past_count e (length (tree_rows f) + length rs)) (past_count e (length (v.rows z) + length more) || refuses_more v e z more) w)

pub trees_limited : (v : Format) {m : Limit} → IsLimited v m → IsLimited (trees_format v) (trees_limit m)
trees_limited v {m} l = record {
  denied = λ e c rs s h.
      let f = two_form (trees_two v) c s in
      let p = two_parts (trees_two v) f.left f.right (subst (λ d. IsSound (trees_format v) d) f.is s) in
      let g = two_form (nodes_two v) f.right p.right in
      let i : c ≡ both f.left (both g.left g.right) = f.is ∙ ap (both f.left) g.is in
      subst (λ d. trees_limit m e (trees_rows v d ++ rs)) (sym i)
      (trees_denied v l e f.left g.left g.right rs (subst (λ d. IsSound (trees_format v) d) i s) (subst (λ d. refuses_more (trees_format v) e d rs ≡ true) i h));
}
