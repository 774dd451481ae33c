use Rattle.std.proofs.Common.{◌≡◌, ℕ, zero, suc, ◌+◌, ◌-◌, ◌<◌, ◌≤◌, true, false, List, [], ◌∷◌, map, refl, ap, subst, ◌∙◌, length, arith, sym, get_or, inl, inr}
use Rattle.std.specs.Prelude.{nat_eq, slice_index, slice_index_or, slice_get, Some}
use Rattle.std.proofs.lemmas.Bool.{eq-eqb, ne_eqb, cases_eq}
use Rattle.std.proofs.lemmas.List.{length-map}
use Rattle.std.proofs.lemmas.Option.{slice_get_within, slice_get-get_or, get_or_from_slice_get}
use Rattle.columnar_base.specs.Row.{Row, unit}
use Rattle.columnar_nested.specs.Forest.{no_trees, Node, width, roots}
use Rattle.columnar_nested.specs.Layout.{IsLayout, IsTreeRule, nodes, starts, own_places}
use Rattle.columnar_nested.specs.Reading.{trees_of}
use Rattle.columnar_nested.specs.LayoutLaws.{passed_layout, rule_passed}
use Rattle.columnar_nested.specs.Nodes.{first_kid}
use Rattle.columnar_nested.specs.ToldLaws.{length-roots, first_kid-after}
use Rattle.columnar_nested.specs.NodeLaws.{IsNode, layout_node, layout_root, starts-length, own_bound}
use Rattle.columnar_nested.specs.Refs.{node_at, IsRef, IsKidOf, IsWalkFrom}
use Rattle.columnar_nested.specs.TreeRows.{tree_row, kids_of}
use Rattle.columnar_nested.specs.TreeRowLaws.{length-kids}

pub length-nodes : {groups bounds : List ℕ} (values : List Row) → IsTreeRule groups bounds (length values) → length (nodes (trees_of bounds values)) ≡ length values
length-nodes {groups} {bounds} values r =
    let l : IsLayout (trees_of bounds values) groups bounds values = passed_layout (rule_passed r) in
    sym (ap length l.in_order ∙ length-map (nodes (trees_of bounds values)) (λ x. x.value))

-- what the bounds say does not depend on the groups
pub own_rule : {groups bounds : List ℕ} {n : ℕ} → IsTreeRule groups bounds n → IsTreeRule (own_places 0 bounds) bounds n
own_rule r = record { count = r.count; first = r.first; last = r.last; never_falls = r.never_falls; ahead = r.ahead; at_own_places = refl }

pub seen_node : {bounds : List ℕ} (values : List Row) {i lower upper : ℕ} → IsRef bounds (length values) i lower upper → IsNode (trees_of bounds values) bounds values i (node_at bounds values i)
seen_node {bounds} values {i} r =
    let l : IsLayout (trees_of bounds values) (own_places 0 bounds) bounds values = passed_layout (rule_passed r.rule) in
    let n = length-nodes values r.rule in
    let w = r.within in
    layout_node l i (node_at bounds values i) (slice_get-get_or (nodes (trees_of bounds values)) i (record { value = unit; kids = no_trees }) (omega (arith, n, w)))

pub seen_value : {bounds : List ℕ} (values : List Row) {i lower upper : ℕ} → IsRef bounds (length values) i lower upper → slice_get values i ≡ Some (node_at bounds values i).value
seen_value values r = (seen_node values r).value

pub seen_kids : {bounds : List ℕ} (values : List Row) {i lower upper : ℕ} → IsRef bounds (length values) i lower upper → upper ≡ lower + width (node_at bounds values i).kids
seen_kids {bounds} values {i} r = let k = (seen_node values r).kid_count in rw (r.high, r.low) k

-- the facts for reading child c
pub record IsKid (bounds : List ℕ) (values : List Row) (i lower upper c : ℕ) : Type 0 where
  pub kid_in : lower + c < length values
  pub bound_in : lower + c + 1 < length bounds
  pub ref : IsRef bounds (length values) (lower + c) (slice_index bounds (lower + c)) (slice_index bounds (lower + c + 1))
  pub kid_at : slice_get (roots (node_at bounds values i).kids) c ≡ Some (node_at bounds values (lower + c))
  pub later : i < lower + c

-- child c of a node is node lower + c; its own children start at its bound
pub kid_facts : {bounds : List ℕ} (values : List Row) {i lower upper : ℕ} (c : ℕ) → IsRef bounds (length values) i lower upper → c < width (node_at bounds values i).kids → IsKid bounds values i lower upper c
kid_facts {bounds} values {i} {lower} {upper} c r d =
    let s = seen_node values r in
    let lr = length-roots (node_at bounds values i).kids in
    let y : Node Row = slice_index_or (roots (node_at bounds values i).kids) c (record { value = unit; kids = no_trees }) in
    let g : slice_get (roots (node_at bounds values i).kids) c ≡ Some y = slice_get-get_or (roots (node_at bounds values i).kids) c (record { value = unit; kids = no_trees }) (omega (arith, d, lr)) in
    let lo : first_kid i (slice_index bounds i) ≡ lower = sym r.low in
    let k : slice_get (nodes (trees_of bounds values)) (lower + c) ≡ Some y = subst (λ x. slice_get (nodes (trees_of bounds values)) (x + c) ≡ Some y) lo (s.kid c y g) in
    let q : lower + c < slice_index bounds (lower + c) = subst (λ x. x + c < slice_index bounds (x + c)) lo (s.no_root c d) in
    let t = s.later in
    let t1 : i < lower = subst (λ x. i < x) lo t in
    let n = length-nodes values r.rule in
    let w = slice_get_within (nodes (trees_of bounds values)) (lower + c) y k in
    let f : nat_eq (slice_index bounds (lower + c)) (lower + c) ≡ false = ne_eqb (slice_index bounds (lower + c)) (lower + c) (λ e. omega (arith, q, e)) in
    let v : node_at bounds values (lower + c) ≡ y = get_or_from_slice_get (nodes (trees_of bounds values)) (lower + c) y (record { value = unit; kids = no_trees }) k in
    let p : lower + c + 1 ≡ suc (lower + c) = omega arith in
    let m = r.rule.count in
    record {
      kid_in = omega (arith, w, n);
      bound_in = omega (arith, w, n, m);
      ref = record { rule = r.rule; within = omega (arith, w, n); low = rw f refl; high = rw p refl };
      kid_at = g ∙ ap Some (sym v);
      later = omega (arith, t1);
    }

-- the facts for reading tree t
pub record IsRoot (groups bounds : List ℕ) (values : List Row) (t : ℕ) : Type 0 where
  pub group_in : t < length groups
  pub node_in : slice_index groups t < length values
  pub bound_in : slice_index groups t + 1 < length bounds
  pub own : slice_index bounds (slice_index groups t) ≡ slice_index groups t
  pub ref : IsRef bounds (length values) (slice_index groups t) (slice_index bounds (slice_index groups t) + 1) (slice_index bounds (slice_index groups t + 1))
  pub tree_at : slice_get (roots (trees_of bounds values)) t ≡ Some (node_at bounds values (slice_index groups t))

pub count_groups : {groups bounds : List ℕ} (values : List Row) → IsTreeRule groups bounds (length values) → length groups ≡ suc (width (trees_of bounds values))
count_groups {groups} {bounds} values r =
    let l : IsLayout (trees_of bounds values) groups bounds values = passed_layout (rule_passed r) in
    ap length l.at_starts ∙ starts-length 0 (trees_of bounds values)

-- tree t starts at its root, whose children start after its bound
pub root_facts : {groups bounds : List ℕ} (values : List Row) (t : ℕ) → IsTreeRule groups bounds (length values) → t < width (trees_of bounds values) → IsRoot groups bounds values t
root_facts {groups} {bounds} values t r h =
    let l : IsLayout (trees_of bounds values) groups bounds values = passed_layout (rule_passed r) in
    let a = count_groups values r in
    let lr = length-roots (trees_of bounds values) in
    let y : Node Row = slice_index_or (roots (trees_of bounds values)) t (record { value = unit; kids = no_trees }) in
    let g : slice_get (roots (trees_of bounds values)) t ≡ Some y = slice_get-get_or (roots (trees_of bounds values)) t (record { value = unit; kids = no_trees }) (omega (arith, h, lr)) in
    let q = slice_get-get_or groups t 0 (omega (arith, h, a)) in
    let k = layout_root l t (slice_index groups t) y g q in
    let o = own_bound groups bounds r.at_own_places t q in
    let n = length-nodes values r in
    let w = slice_get_within (nodes (trees_of bounds values)) (slice_index groups t) y k in
    let f : nat_eq (slice_index bounds (slice_index groups t)) (slice_index groups t) ≡ true = eq-eqb (slice_index bounds (slice_index groups t)) (slice_index groups t) o in
    let v : node_at bounds values (slice_index groups t) ≡ y = get_or_from_slice_get (nodes (trees_of bounds values)) (slice_index groups t) y (record { value = unit; kids = no_trees }) k in
    let p : slice_index groups t + 1 ≡ suc (slice_index groups t) = omega arith in
    let p2 : slice_index bounds (slice_index groups t) + 1 ≡ suc (slice_index bounds (slice_index groups t)) = omega arith in
    let c = r.count in
    record {
      group_in = omega (arith, h, a);
      node_in = omega (arith, w, n);
      bound_in = omega (arith, w, n, c);
      own = o;
      ref = record { rule = own_rule r; within = omega (arith, w, n); low = rw (f, p2) refl; high = rw p refl };
      tree_at = g ∙ ap Some (sym v);
    }

-- a group is the number of a node, or the number of all nodes
pub group_within : {groups bounds : List ℕ} {n : ℕ} → IsTreeRule groups bounds n → (t : ℕ) → t < length groups → slice_index groups t ≤ n
group_within {groups} {bounds} {n} r t h =
    let g = slice_get-get_or groups t 0 h in
    let s = own_places_within 0 bounds t (slice_index groups t) (subst (λ x. slice_get x t ≡ Some (slice_index groups t)) r.at_own_places g) in
    let c = r.count in
    omega (arith, s, c)
  where
    own_places_within : (at : ℕ) (bs : List ℕ) (t n : ℕ) → slice_get (own_places at bs) t ≡ Some n → n < at + length bs
    own_places_within at [] t n h = cc
    own_places_within at (b ∷ bs) t n h = elim (cases_eq b at) [
      | inl e ↦ here at b bs t n (let c : nat_eq b at ≡ true = eq-eqb b at e in rw c at h) (own_places_within (suc at) bs)
      | inr e ↦
          let c : nat_eq b at ≡ false = ne_eqb b at e in
          let i = own_places_within (suc at) bs t n (rw c at h) in
          omega (arith, i)
    ]
      where
        here : (at b : ℕ) (bs : List ℕ) (t n : ℕ) → slice_get (at ∷ own_places (suc at) bs) t ≡ Some n → ((t n : ℕ) → slice_get (own_places (suc at) bs) t ≡ Some n → n < suc at + length bs) → n < at + suc (length bs)
        here at b bs zero n h r = let a : at ≡ n = cc in omega (arith, a)
        here at b bs (suc t) n h r = let i = r t n h in omega (arith, i)

-- a child is below the number of nodes, and after its parent
pub kid_between : {groups bounds : List ℕ} {n : ℕ} → IsTreeRule groups bounds n → (i k : ℕ) → i < n → IsKidOf bounds i k → (i < k) × (k < n)
kid_between {groups} {bounds} {n} r i k l h =
    let a = first_kid-after i (slice_index bounds i) (r.ahead i (omega (arith, l))) in
    let b = bounded r (suc i) (omega (arith, l)) in
    let c = h.0 in
    let d = h.1 in
    (omega (arith, a, c), omega (arith, b, d))
  where
    bounded_by : {groups bounds : List ℕ} {n : ℕ} → IsTreeRule groups bounds n → (m j : ℕ) → j + m ≡ n → slice_index bounds j ≤ n
    bounded_by {groups} {bounds} {n} r zero j e = let f : j ≡ n = omega (arith, e) in let g = r.last in rw f (omega (arith, g))
    bounded_by {groups} {bounds} {n} r (suc m) j e =
        let h = bounded_by r m (suc j) (omega (arith, e)) in
        let f = r.never_falls j (omega (arith, e)) in
        omega (arith, h, f)

    bounded : {groups bounds : List ℕ} {n : ℕ} → IsTreeRule groups bounds n → (j : ℕ) → j ≤ n → slice_index bounds j ≤ n
    bounded {groups} {bounds} {n} r j l = bounded_by r (n - j) j (omega (arith, l))

-- a walk down takes fewer steps than there are nodes from its start on
pub walk_ends_soon : {groups bounds : List ℕ} {n : ℕ} → IsTreeRule groups bounds n → (i : ℕ) (ks : List ℕ) → i < n → IsWalkFrom bounds i ks → i + length ks < n
walk_ends_soon r i [] l w = omega (arith, l)
walk_ends_soon {groups} {bounds} {n} r i (k ∷ ks) l w =
    let b = kid_between r i k l w.0 in
    let h = walk_ends_soon r k ks b.1 w.1 in
    let c = b.0 in
    omega (arith, h, c)

-- the index of a child, for children as rows
pub kid_in_range : (bounds : List ℕ) (values : List Row) (i : ℕ) {c : ℕ} → c < length (kids_of (tree_row (node_at bounds values i))) → c < width (node_at bounds values i).kids
kid_in_range bounds values i {c} h = let l = length-kids (node_at bounds values i) in omega (arith, h, l)
