-- The effect of a push of a tree, taken or refused.
use Rattle.std.proofs.Common.{◌≡◌, ℕ, suc, ◌+◌, ◌^◌, ◌<◌, List, [], ◌∷◌, ◌++◌, length, take, refl, ◌∙◌, ap, subst, arith}
use Rattle.columnar_base.specs.Row.{Row}
use Rattle.columnar_base.specs.Format.{Format, Content, slice, both, IsSound, IsLawful}
use Rattle.columnar_base.specs.Change.{Took, WasCut, Stayed, Refused, IsTrueOf}
use Rattle.columnar_base.specs.ChangeLaws.{undone}
use Rattle.columnar_base.specs.Elements.{words_format, word_row_of}
use Rattle.columnar_base.specs.ElementLaws.{elements_sound, word_element}
use Rattle.columnar_base.specs.WordViews.{words_in, le_bytes}
use Rattle.columnar_base.specs.WordViewLaws.{words_pushed, words_back, length-words_in, length-le_bytes}
use Rattle.columnar_base.specs.declared.fault.GrowError.{GrowError}
use Rattle.std.specs.Prelude.{slice_set}
use Rattle.columnar_nested.specs.Layout.{totals, kid_counts, IsTreeRule}
use Rattle.columnar_nested.specs.LayoutLaws.{layout_rule}
use Rattle.columnar_nested.specs.NodeLaws.{layout_none}
use Rattle.columnar_nested.specs.TreeValues.{node_of, in_order, tree_meaning, added_values, added_bounds}
use Rattle.columnar_nested.specs.Trees.{trees_format, nodes_format}
use Rattle.columnar_nested.specs.TreesLaws.{trees_took, trees_refused, trees_parts, trees_sound, tree_values, count_trees}
use Rattle.columnar_nested.specs.declared.tree.Tree.{Tree}

words_sound : (xs : List ℕ) → IsSound words_format (slice (le_bytes xs))
words_sound xs = elements_sound word_row_of word_element xs

-- the content of the groups, the bounds and the values
abbrev pub held_trees : List ℕ → List ℕ → Content → Content
held_trees groups bounds z = both (slice (le_bytes groups)) (both (slice (le_bytes bounds)) z)

pub tree_pushed : {T : Type 0} (m : T → Row) (v : Format) (groups bounds groups' bounds' : List ℕ) {z z' : Content} (t : Tree T) (n : ℕ) → IsSound (trees_format v) (held_trees groups bounds z)
    → Took v z z' (added_values m (t ∷ [])) → words_in (le_bytes bounds') ≡ words_in (le_bytes bounds) ++ added_bounds m (length (v.rows z)) (t ∷ []) → groups' ≡ groups ++ n ∷ [] → n ≡ length (v.rows z') → n < 2 ^ 64
    → Took (trees_format v) (held_trees groups bounds z) (held_trees groups' bounds' z') (tree_meaning m t ∷ [])
tree_pushed m v groups bounds groups' bounds' {z} {z'} t n s k b g e l =
    let f : length (v.rows z) + 1 ≡ suc (length (v.rows z)) = omega arith in
    trees_took v {n = node_of m t} s (record {
      end = n;
      groups = ap (λ gs. words_in (le_bytes gs)) g ∙ words_pushed groups n l;
      at = e;
      bounds = b ∙ ap (λ i. words_in (le_bytes bounds) ++ totals i (kid_counts (in_order m (t ∷ [])))) f;
      values = k;
      groups_sound = words_sound groups';
      bounds_sound = words_sound bounds';
    })

pub tree_refused : {T : Type 0} (m : T → Row) (v : Format) (groups bounds mid : List ℕ) {groups' bounds' : List ℕ} {z w z' : Content} (t : Tree T) {c n : ℕ} (error : GrowError) → IsLawful v → IsSound (trees_format v) (held_trees groups bounds z)
    → ((some : List Row) × Took v z w some) → take (length bounds) mid ≡ bounds
    → groups' ≡ groups → bounds' ≡ take c mid → c ≡ length bounds → WasCut v w z' n → n ≡ length (v.rows z)
    → IsTrueOf error (nodes_format v) (both (slice (le_bytes bounds)) z) (added_values m (t ∷ []))
    → Refused (trees_format v) (held_trees groups bounds z) (held_trees groups' bounds' z') (tree_meaning m t ∷ []) error
tree_refused m v groups bounds mid {groups'} {bounds'} {z} {w} {z'} t {c} {n} error law s b k g h e cut f a =
    let st : Stayed v z z' = undone law (tree_values v (slice (le_bytes groups)) (slice (le_bytes bounds)) z s) (b.1).grew (subst (λ i. WasCut v w z' i) f cut) in
    let u : bounds' ≡ bounds = h ∙ (ap (λ i. take i mid) e ∙ k) in
    rw (g, u) (trees_refused v (node_of m t) s st a)

words_of_zero : (xs : List ℕ) → xs ≡ 0 ∷ [] → words_in (le_bytes xs) ≡ 0 ∷ []
words_of_zero xs e = ap (λ ys. words_in (le_bytes ys)) e ∙ (words_pushed [] 0 (omega arith) ∙ ap (λ ys. ys ++ 0 ∷ []) (words_back []))

-- no trees: groups and bounds of a single 0
pub none_sound : (v : Format) (groups bounds : List ℕ) (z : Content) → groups ≡ 0 ∷ [] → bounds ≡ 0 ∷ [] → IsSound v z → v.rows z ≡ [] → IsSound (trees_format v) (held_trees groups bounds z)
none_sound v groups bounds z g b s e =
    let l : IsTreeRule (0 ∷ []) (0 ∷ []) 0 = layout_rule (layout_none Row) in
    trees_sound v (slice (le_bytes groups)) (slice (le_bytes bounds)) z (record {
      groups = words_sound groups;
      bounds = words_sound bounds;
      values = s;
      rule = rw (words_of_zero groups g, words_of_zero bounds b, e) l;
    })

pub none_rows : (v : Format) (groups bounds : List ℕ) (z : Content) → bounds ≡ 0 ∷ [] → (trees_format v).rows (held_trees groups bounds z) ≡ []
none_rows v groups bounds z b = rw (words_of_zero bounds b) refl

-- groups and bounds have at least one word
pub groups_there : (v : Format) (groups bounds : List ℕ) (z : Content) → IsSound (trees_format v) (held_trees groups bounds z) → 0 < length groups
groups_there v groups bounds z s =
    let c = count_trees v (slice (le_bytes groups)) (slice (le_bytes bounds)) z (trees_parts v (slice (le_bytes groups)) (slice (le_bytes bounds)) z s) in
    let l = length-words_in (le_bytes groups) in
    let b = length-le_bytes groups in
    omega (arith, c, l, b)

pub bounds_there : (v : Format) (groups bounds : List ℕ) (z : Content) → IsSound (trees_format v) (held_trees groups bounds z) → 0 < length bounds
bounds_there v groups bounds z s =
    let c = (trees_parts v (slice (le_bytes groups)) (slice (le_bytes bounds)) z s).rule.count in
    let l = length-words_in (le_bytes bounds) in
    let b = length-le_bytes bounds in
    omega (arith, c, l, b)

pub set_first : (xs : List ℕ) → 0 < length xs → slice_set (take 1 xs) 0 0 ≡ 0 ∷ []
set_first [] h = absurd (omega (arith, h))
set_first (x ∷ xs) h = refl
