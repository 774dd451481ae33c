-- The soundness of a column of trees, and the effects of growth and of a refusal.
use Rattle.std.proofs.Common.{◌≡◌, ℕ, suc, ◌+◌, ◌-◌, ◌<◌, ◌≤◌, true, ◌||◌, List, [], ◌∷◌, ◌++◌, map, length, refl, sym, ◌∙◌, ap, arith, length-append}
use Rattle.std.specs.Prelude.{slice_index, slice_get, Some}
use Rattle.std.proofs.lemmas.Bool.{and_from, or_right}
use Rattle.std.proofs.lemmas.List.{length-map, get_or_append_left}
use Rattle.columnar_base.specs.Row.{Row, row_eq}
use Rattle.columnar_base.specs.RowLaws.{is-row_eq}
use Rattle.columnar_base.specs.Format.{Format, Content, slice, both, IsSound, IsStorable, Excess, refuses_more, all_alike, slices_of}
use Rattle.columnar_base.specs.Change.{Keeps, Stayed, Took, Refused, IsTrueOf}
use Rattle.columnar_base.specs.ChangeLaws.{true_from}
use Rattle.columnar_base.specs.AlikeLaws.{alike_length}
use Rattle.columnar_base.specs.TupleLaws.{or_both}
use Rattle.columnar_base.specs.TwoParts.{TwoParts}
use Rattle.columnar_base.specs.TwoPartsLaws.{two_parts, two_sound, two_storable}
use Rattle.columnar_base.specs.Elements.{words_format, word_row_of, past_count}
use Rattle.columnar_base.specs.ElementLaws.{elements_storable}
use Rattle.columnar_base.specs.declared.fault.GrowError.{GrowError}
use Rattle.columnar_nested.specs.Forest.{Forest, no_trees, tree_and, Node, width, level_order}
use Rattle.columnar_nested.specs.Layout.{IsLayout, IsTreeRule, nodes, values_of, kid_counts, totals, starts}
use Rattle.columnar_nested.specs.ForestLaws.{joined_forest}
use Rattle.columnar_nested.specs.Reading.{trees_of}
use Rattle.columnar_nested.specs.LayoutLaws.{layout_read, layout_rule, passed_layout, rule_passed}
use Rattle.columnar_nested.specs.NodeLaws.{layout_pushed}
use Rattle.columnar_nested.specs.PassLaws.{accepts_rule, rule_accepts}
use Rattle.columnar_nested.specs.RefLaws.{count_groups, group_within, IsRoot, root_facts}
use Rattle.columnar_nested.specs.Refs.{node_at, IsRef}
use Rattle.columnar_nested.specs.ShapeLaws.{Refit, refit}
use Rattle.columnar_nested.specs.TreeRows.{tree_rows, tree_row, level_values, bare_tree, tree_alike}
use Rattle.columnar_nested.specs.TreeRowLaws.{tree_rows-joined, length-tree_rows, level_values-more, level_values-one, tree_rows_get}
use Rattle.columnar_nested.specs.Trees.{words_of, nodes_format, trees_keep, trees_format, trees_rows, end_of_trees, nodes_refuses}

pub nodes_two : (v : Format) → TwoParts (nodes_format v) words_format v (λ y z. true) 0
nodes_two v = record { count = refl; sizes = refl; aligns = refl; build = λ ss. refl; broken = λ c. refl }

pub trees_two : (v : Format) → TwoParts (trees_format v) words_format (nodes_format v) (trees_keep v) 18
trees_two v = record { count = omega arith; sizes = refl; aligns = refl; build = λ ss. refl; broken = λ c. refl }

pub trees_storable : (v : Format) → IsStorable v → IsStorable (trees_format v)
trees_storable v s = two_storable (trees_two v) (omega arith) (elements_storable 8 8 word_row_of) (two_storable (nodes_two v) (omega arith) (elements_storable 8 8 word_row_of) s)

-- the soundness of trees
pub record SoundTrees (v : Format) (x y z : Content) : Type 0 where
  pub groups : IsSound words_format x
  pub bounds : IsSound words_format y
  pub values : IsSound v z
  pub rule : IsTreeRule (words_of x) (words_of y) (length (v.rows z))

pub trees_parts : (v : Format) (x y z : Content) → IsSound (trees_format v) (both x (both y z)) → SoundTrees v x y z
trees_parts v x y z s =
    let p = two_parts (trees_two v) x (both y z) s in
    let q = two_parts (nodes_two v) y z p.right in
    record { groups = p.left; bounds = q.left; values = q.right; rule = accepts_rule (words_of x) (words_of y) (length (v.rows z)) p.own }

pub trees_sound : (v : Format) (x y z : Content) → SoundTrees v x y z → IsSound (trees_format v) (both x (both y z))
trees_sound v x y z s = two_sound (trees_two v) x (both y z) (record {
  left = s.groups;
  right = two_sound (nodes_two v) y z (record { left = s.bounds; right = s.values; own = refl });
  own = rule_accepts (words_of x) (words_of y) (length (v.rows z)) s.rule;
})

-- the number of trees
pub count_trees : (v : Format) (x y z : Content) → SoundTrees v x y z → length (words_of x) ≡ suc (length (trees_rows v (both x (both y z))))
count_trees v x y z s = count_groups (v.rows z) s.rule ∙ ap suc (sym (length-tree_rows (trees_of (words_of y) (v.rows z))))

last-start : {A : Type 0} (at : ℕ) (ts : Forest A) → slice_index (starts at ts) (width ts) ≡ at + length (nodes ts)
last-start at no_trees = omega arith
last-start at (tree_and v k r) =
    let h = last-start (at + length (level_order (tree_and v k no_trees))) r in
    let e = length-append (level_order (tree_and v k no_trees)) (nodes r) in
    omega (arith, h, e)

-- the last tree ends where the values end
pub tree_last_end : (v : Format) (x y z : Content) → SoundTrees v x y z → end_of_trees x (length (trees_rows v (both x (both y z)))) ≡ length (v.rows z)
tree_last_end v x y z s =
    let l : IsLayout (trees_of (words_of y) (v.rows z)) (words_of x) (words_of y) (v.rows z) = passed_layout (rule_passed s.rule) in
    let w = length-tree_rows (trees_of (words_of y) (v.rows z)) in
    let e = last-start 0 (trees_of (words_of y) (v.rows z)) in
    let n : length (v.rows z) ≡ length (nodes (trees_of (words_of y) (v.rows z))) = ap length l.in_order ∙ length-map (nodes (trees_of (words_of y) (v.rows z))) (λ n. n.value) in
    ap (λ i. slice_index (words_of x) i) w ∙ (ap (λ gs. slice_index gs (width (trees_of (words_of y) (v.rows z)))) l.at_starts ∙ omega (arith, e, n))

-- the columns after one more tree
pub record OneMore (v : Format) (x x' y y' z z' : Content) (n : Node Row) : Type 0 where
  pub end : ℕ
  pub groups : words_of x' ≡ words_of x ++ end ∷ []
  pub at : end ≡ length (v.rows z')
  pub bounds : words_of y' ≡ words_of y ++ totals (suc (length (v.rows z))) (kid_counts (level_order (tree_and n.value n.kids no_trees)))
  pub values : Took v z z' (values_of (level_order (tree_and n.value n.kids no_trees)))
  pub groups_sound : IsSound words_format x'
  pub bounds_sound : IsSound words_format y'

fresh_count : (v : Format) {x x' y y' z z' : Content} {n : Node Row} → (m : OneMore v x x' y y' z z' n) → length m.values.fresh ≡ length (values_of (level_order (tree_and n.value n.kids no_trees)))
fresh_count v {n = n} m = alike_length v.alike m.values.fresh (values_of (level_order (tree_and n.value n.kids no_trees))) m.values.alike

-- the tree that was added: of the same shape, with its values as they are stored
added_tree : (v : Format) {x x' y y' z z' : Content} {n : Node Row} → (m : OneMore v x x' y y' z z' n) → Refit n m.values.fresh
added_tree v {n = n} m = refit n m.values.fresh (fresh_count v m)

added_layout : (v : Format) {x x' y y' z z' : Content} {n : Node Row} → SoundTrees v x y z → (m : OneMore v x x' y y' z z' n) → (g : Refit n m.values.fresh)
    → IsLayout (joined_forest (trees_of (words_of y) (v.rows z)) (tree_and g.is.value g.is.kids no_trees)) (words_of x') (words_of y') (v.rows z')
added_layout v {x} {x'} {y} {y'} {z} {z'} {n} s m g =
    let l : IsLayout (trees_of (words_of y) (v.rows z)) (words_of x) (words_of y) (v.rows z) = passed_layout (rule_passed s.rule) in
    let p = layout_pushed g.is.value g.is.kids l in
    let c : length m.values.fresh ≡ length (level_order (tree_and g.is.value g.is.kids no_trees)) = ap length (sym g.values) ∙ length-map (level_order (tree_and g.is.value g.is.kids no_trees)) (λ n. n.value) in
    let r = m.values.grew.rows in
    let e : length (v.rows z') ≡ length (v.rows z) + length m.values.fresh = ap length r ∙ length-append (v.rows z) m.values.fresh in
    let d : m.end ≡ length (v.rows z) + length (level_order (tree_and g.is.value g.is.kids no_trees)) = let a = m.at in omega (arith, a, c, e) in
    record {
      at_starts = (m.groups ∙ ap (λ i. words_of x ++ i ∷ []) d) ∙ p.at_starts;
      at_ends = (m.bounds ∙ ap (λ cs. words_of y ++ totals (suc (length (v.rows z))) cs) (sym g.counts)) ∙ p.at_ends;
      in_order = (r ∙ ap (λ vs. v.rows z ++ vs) (sym g.values)) ∙ p.in_order;
    }

added_sound : (v : Format) {x x' y y' z z' : Content} {n : Node Row} → SoundTrees v x y z → (m : OneMore v x x' y y' z z' n) → SoundTrees v x' y' z'
added_sound v s m = record {
  groups = m.groups_sound;
  bounds = m.bounds_sound;
  values = m.values.grew.sound;
  rule = layout_rule (added_layout v s m (added_tree v m));
}

added_rows : (v : Format) {x x' y y' z z' : Content} {n : Node Row} → SoundTrees v x y z → (m : OneMore v x x' y y' z z' n)
    → trees_rows v (both x' (both y' z')) ≡ trees_rows v (both x (both y z)) ++ tree_row (added_tree v m).is ∷ []
added_rows v {y = y} {z = z} s m =
    let g = added_tree v m in
    ap tree_rows (layout_read (added_layout v s m g)) ∙ tree_rows-joined (trees_of (words_of y) (v.rows z)) (tree_and g.is.value g.is.kids no_trees)

-- the first trees end where they ended before
ends_kept : (v : Format) {x x' y y' z z' : Content} {n : Node Row} → SoundTrees v x y z → (m : OneMore v x x' y y' z z' n) → (t : ℕ) → t ≤ length (trees_rows v (both x (both y z))) → end_of_trees x' t ≡ end_of_trees x t
ends_kept v {x} {x'} {y} {y'} {z} {z'} s m t l =
    let c = count_trees v x y z s in
    ap (λ gs. slice_index gs t) m.groups ∙ get_or_append_left (words_of x) (m.end ∷ []) 0 t (omega (arith, c, l))

end_in : (v : Format) (x y z : Content) → SoundTrees v x y z → (t : ℕ) → t ≤ length (trees_rows v (both x (both y z))) → end_of_trees x t ≤ length (v.rows z)
end_in v x y z s t l = let c = count_trees v x y z s in group_within s.rule t (omega (arith, c, l))

added_kept : (v : Format) {x x' y y' z z' : Content} {n : Node Row} → SoundTrees v x y z → (m : OneMore v x x' y y' z z' n) → Keeps (trees_format v) (both x (both y z)) (both x' (both y' z')) (length (trees_rows v (both x (both y z))))
added_kept v {x} {x'} {y} {y'} {z} {z'} s m = record {
  extents = λ t l.
      let e = ends_kept v s m t l in
      let k = m.values.grew.kept.extents (end_of_trees x t) (end_in v x y z s t l) in
      rw (e, k) refl;
  limits = λ t l e rs.
      let i = ends_kept v s m t l in
      let k = m.values.grew.kept.limits (end_of_trees x t) (end_in v x y z s t l) e (level_values rs) in
      rw (i, k) refl;
}

added_alike : (v : Format) {n : Node Row} {vs : List Row} → (g : Refit n vs) → all_alike v.alike vs (values_of (level_order (tree_and n.value n.kids no_trees))) ≡ true
    → all_alike (tree_alike v.alike) (tree_row g.is ∷ []) (tree_row n ∷ []) ≡ true
added_alike v {n} {vs} g h =
    let a = level_values-one g.is ∙ g.values in
    let b = level_values-one n in
    and_from _ _ (and_from _ _ (is-row_eq (bare_tree (tree_row g.is)) (bare_tree (tree_row n)) g.shape)
    (ap (λ us. all_alike v.alike us (level_values (tree_row n ∷ []))) a ∙ (ap (λ us. all_alike v.alike vs us) b ∙ h))) refl

-- what the new column refuses, the old one refused after the tree
added_refuses : (v : Format) {x x' y y' z z' : Content} {n : Node Row} → SoundTrees v x y z → (m : OneMore v x x' y y' z z' n) → (e : Excess) (rs : List Row)
    → refuses_more (trees_format v) e (both x' (both y' z')) rs ≡ true → refuses_more (trees_format v) e (both x (both y z)) (tree_row n ∷ rs) ≡ true
added_refuses v {x} {x'} {y} {y'} {z} {z'} {n} s m e rs h =
    let s' = added_sound v s m in
    let w : length (trees_rows v (both x' (both y' z'))) ≡ suc (length (trees_rows v (both x (both y z)))) =
    ap length (added_rows v s m) ∙ (length-append (trees_rows v (both x (both y z))) (tree_row (added_tree v m).is ∷ []) ∙ omega arith) in
    let k = tree_last_end v x y z s in
    let k' = tree_last_end v x' y' z' s' in
    let added : List Row = values_of (level_order (tree_and n.value n.kids no_trees)) in
    let lv : level_values (tree_row n ∷ rs) ≡ added ++ level_values rs = level_values-more n rs in
    let ll = length-append added (level_values rs) in
    let r : length (v.rows z') ≡ length (v.rows z) + length added =
    ap length m.values.grew.rows ∙ (length-append (v.rows z) m.values.fresh ∙ ap (λ i. length (v.rows z) + i) (fresh_count v m)) in
    let a1 : length (trees_rows v (both x' (both y' z'))) + length rs ≡ length (trees_rows v (both x (both y z))) + suc (length rs) = omega (arith, w) in
    let a2 : length (v.rows z') + length (level_values rs) ≡ length (v.rows z) + length (added ++ level_values rs) = omega (arith, r, ll) in
    let h1 : (past_count e (length (trees_rows v (both x (both y z))) + suc (length rs)) || (past_count e (length (v.rows z) + length (added ++ level_values rs)) || refuses_more v e z' (level_values rs))) ≡ true
    = rw (k', a1, a2) at h in
    let q = or_both (past_count e (length (trees_rows v (both x (both y z))) + suc (length rs))) (past_count e (length (v.rows z) + length (added ++ level_values rs)) || refuses_more v e z' (level_values rs))
    (past_count e (length (trees_rows v (both x (both y z))) + suc (length rs))) (past_count e (length (v.rows z) + length (added ++ level_values rs)) || refuses_more v e z (added ++ level_values rs))
    (λ p. p) (or_both (past_count e (length (v.rows z) + length (added ++ level_values rs))) (refuses_more v e z' (level_values rs)) (past_count e (length (v.rows z) + length (added ++ level_values rs))) (refuses_more v e z (added ++ level_values rs)) (λ p. p) (m.values.adds e (level_values rs))) h1 in
    ap (λ us. past_count e (length (trees_rows v (both x (both y z))) + suc (length rs)) || (past_count e (end_of_trees x (length (trees_rows v (both x (both y z)))) + length us) || v.refuses e z (end_of_trees x (length (trees_rows v (both x (both y z))))) us)) lv
    ∙ (ap (λ i. past_count e (length (trees_rows v (both x (both y z))) + suc (length rs)) || (past_count e (i + length (added ++ level_values rs)) || v.refuses e z i (added ++ level_values rs))) k ∙ q)

pub trees_took : (v : Format) {x x' y y' z z' : Content} {n : Node Row} → IsSound (trees_format v) (both x (both y z)) → OneMore v x x' y y' z z' n
    → Took (trees_format v) (both x (both y z)) (both x' (both y' z')) (tree_row n ∷ [])
trees_took v {x} {x'} {y} {y'} {z} {z'} {n} i m =
    let s = trees_parts v x y z i in
    record {
      fresh = tree_row (added_tree v m).is ∷ [];
      grew = record {
        sound = trees_sound v x' y' z' (added_sound v s m);
        rows = added_rows v s m;
        kept = added_kept v s m;
      };
      alike = added_alike v (added_tree v m) m.values.alike;
      adds = λ e rs h. added_refuses v s m e rs h;
    }

-- a refused tree: the groups and the bounds are unchanged, and the values stayed
pub trees_stayed : (v : Format) {x y z z' : Content} → IsSound (trees_format v) (both x (both y z)) → Stayed v z z' → Stayed (trees_format v) (both x (both y z)) (both x (both y z'))
trees_stayed v {x} {y} {z} {z'} i t =
    let s = trees_parts v x y z i in
    let r = t.rows in
    record {
      sound = trees_sound v x y z' (record { groups = s.groups; bounds = s.bounds; values = t.sound; rule = rw r s.rule });
      rows = rw r refl;
      lengths_same = let l = t.lengths_same in rw l refl;
      kept = record {
        extents = λ n l. let k = t.kept.extents (end_of_trees x n) (end_in v x y z s n l) in rw k refl;
        limits = λ n l e rs. let k = t.kept.limits (end_of_trees x n) (end_in v x y z s n l) e (level_values rs) in rw k refl;
      };
    }

-- the trees refuse what the bounds or the values refuse
pub trees_refused : (v : Format) {x y z z' : Content} (n : Node Row) {error : GrowError} → IsSound (trees_format v) (both x (both y z)) → Stayed v z z'
    → IsTrueOf error (nodes_format v) (both y z) (values_of (level_order (tree_and n.value n.kids no_trees)))
    → Refused (trees_format v) (both x (both y z)) (both x (both y z')) (tree_row n ∷ []) error
trees_refused v {x} {y} {z} {z'} n {error} i t c =
    let s = trees_parts v x y z i in
    let k = tree_last_end v x y z s in
    let lv = level_values-one n in
    record {
      stayed = trees_stayed v i t;
      cause = true_from (nodes_format v) (trees_format v) (both y z) (both x (both y z)) (values_of (level_order (tree_and n.value n.kids no_trees))) (tree_row n ∷ []) error
          (λ e h.
          ap (λ us. past_count e (length (trees_rows v (both x (both y z))) + 1) || nodes_refuses v e (both y z) (end_of_trees x (length (trees_rows v (both x (both y z))))) us) lv
          ∙ (ap (λ i. past_count e (length (trees_rows v (both x (both y z))) + 1) || nodes_refuses v e (both y z) i (values_of (level_order (tree_and n.value n.kids no_trees)))) k
          ∙ or_right (past_count e (length (trees_rows v (both x (both y z))) + 1)) (refuses_more (nodes_format v) e (both y z) (values_of (level_order (tree_and n.value n.kids no_trees)))) h)) c;
    }

pub same_trees : {v w : Format} → v ≡ w → trees_format v ≡ trees_format w
same_trees e = ap trees_format e

-- the facts for reading tree t
pub tree_facts : (v : Format) (x y z : Content) (t : ℕ) → IsSound (trees_format v) (both x (both y z)) → t < length (trees_rows v (both x (both y z))) → IsRoot (words_of x) (words_of y) (v.rows z) t
tree_facts v x y z t s h =
    let w = length-tree_rows (trees_of (words_of y) (v.rows z)) in
    root_facts (v.rows z) t (trees_parts v x y z s).rule (omega (arith, h, w))

pub tree_read : (v : Format) (x y z : Content) (t : ℕ) → IsSound (trees_format v) (both x (both y z)) → t < length (trees_rows v (both x (both y z))) → slice_get (trees_rows v (both x (both y z))) t ≡ Some (tree_row (node_at (words_of y) (v.rows z) (slice_index (words_of x) t)))
tree_read v x y z t s h = tree_rows_get (trees_of (words_of y) (v.rows z)) t (node_at (words_of y) (v.rows z) (slice_index (words_of x) t)) (tree_facts v x y z t s h).tree_at

pub tree_values : (v : Format) (x y z : Content) → IsSound (trees_format v) (both x (both y z)) → IsSound v z
tree_values v x y z s = (trees_parts v x y z s).values

-- the root is the node before its first child
pub root_ref : {bounds : List ℕ} {n g r u : ℕ} → slice_index bounds g ≡ g → IsRef bounds n g (slice_index bounds g + 1) (slice_index bounds (g + 1)) → r ≡ g → u ≡ slice_index bounds (r + 1) → IsRef bounds n r (r + 1) u
root_ref {bounds} {n} {g} {r} {u} o f e h = record {
  rule = f.rule;
  within = rw e f.within;
  low = rw e (ap (λ i. i + 1) (sym o) ∙ f.low);
  high = h ∙ rw e f.high;
}

pub len_trees : (v : Format) (x y z : Content) {n : ℕ} → IsSound (trees_format v) (both x (both y z)) → n ≡ length (words_of x) → n - 1 ≡ length (trees_rows v (both x (both y z)))
len_trees v x y z {n} s e =
    let k = count_trees v x y z (trees_parts v x y z s) in
    omega (arith, k, e)

-- the number after a root's is below the number of bounds
pub root_next : (v : Format) (x y z : Content) (t : ℕ) {r m : ℕ} → IsSound (trees_format v) (both x (both y z)) → t < length (trees_rows v (both x (both y z))) → r ≡ slice_index (words_of x) t → m ≡ length (words_of y) → r + 1 < m
root_next v x y z t {r} {m} s h e f =
    let b = (tree_facts v x y z t s h).bound_in in
    omega (arith, b, e, f)

-- ---- slices of bytes

pub trees_counted : (v : Format) (groups bounds : List ℕ) (z : Content) → length (slices_of z) ≡ v.count → length (slices_of (both (slice groups) (both (slice bounds) z))) ≡ 2 + v.count
trees_counted v groups bounds z h = omega (arith, h)

-- the rows are the trees of the layout
pub rows_laid : (v : Format) (x y z : Content) → IsSound (trees_format v) (both x (both y z)) → (ts : Forest Row) × (IsLayout ts (words_of x) (words_of y) (v.rows z) × (trees_rows v (both x (both y z)) ≡ tree_rows ts))
rows_laid v x y z s = (trees_of (words_of y) (v.rows z), (passed_layout (rule_passed (trees_parts v x y z s).rule), refl))
