-- What the numbers of a layout say about its trees and nodes; the layout of one more tree.
use Rattle.std.proofs.Common.{◌≡◌, ℕ, zero, suc, ◌+◌, ◌-◌, ◌<◌, ◌≤◌, true, false, List, [], ◌∷◌, ◌++◌, length, map, refl, sym, ◌∙◌, ap, subst, arith, inl, inr, append_assoc, length-append, append-nil}
use Rattle.std.specs.Prelude.{nat_eq, slice_index, slice_get, Some}
use Rattle.std.proofs.lemmas.Bool.{eq-eqb, cases_eq, ne_eqb}
use Rattle.std.proofs.lemmas.Option.{slice_get_within, slice_get-map}
use Rattle.std.proofs.lemmas.List.{length-map, map-append}
use Rattle.columnar_nested.specs.Forest.{Forest, no_trees, tree_and, Node, width, roots, level_order}
use Rattle.columnar_nested.specs.Layout.{IsLayout, nodes, values_of, kid_counts, totals, starts, kid_ends, own_places}
use Rattle.columnar_nested.specs.ForestLaws.{joined_forest}
use Rattle.columnar_nested.specs.WalkLaws.{walk_nodes-whole, walk_ends-whole}
use Rattle.columnar_nested.specs.Nodes.{IsTold, first_kid}
use Rattle.columnar_nested.specs.ToldLaws.{told_all, get-after, first_kid-after}

-- node i of the trees ts is x: its value, its number of children, and each child's number, from the columns
pub record IsNode {A : Type 0} (ts : Forest A) (bounds : List ℕ) (values : List A) (i : ℕ) (x : Node A) : Type 0 where
  pub value : slice_get values i ≡ Some x.value
  pub kid_count : slice_index bounds (suc i) ≡ first_kid i (slice_index bounds i) + width x.kids
  pub kid : (c : ℕ) (y : Node A) → slice_get (roots x.kids) c ≡ Some y → slice_get (nodes ts) (first_kid i (slice_index bounds i) + c) ≡ Some y
  -- the number of a child is greater than its parent's, and a child is not a root
  pub later : i < first_kid i (slice_index bounds i)
  pub no_root : (c : ℕ) → c < width x.kids → first_kid i (slice_index bounds i) + c < slice_index bounds (first_kid i (slice_index bounds i) + c)

roots-within : {A : Type 0} (f : Forest A) (c : ℕ) → c < width f → (y : Node A) × (slice_get (roots f) c ≡ Some y)
roots-within no_trees c h = absurd (omega (arith, h))
roots-within (tree_and v k r) zero h = (record { value = v; kids = k }, refl)
roots-within (tree_and v k r) (suc c) h = roots-within r c (omega (arith, h))

pub layout_node : {A : Type 0} {ts : Forest A} {groups bounds : List ℕ} {values : List A} → IsLayout ts groups bounds values → (i : ℕ) (x : Node A) → slice_get (nodes ts) i ≡ Some x → IsNode ts bounds values i x
layout_node {A = A} {ts = ts} {bounds = bounds} l i x g =
    let w = told_all 0 no_trees ts in
    let t : IsTold 0 (nodes ts) (0 ∷ kid_ends 0 ts) = rw (walk_nodes-whole ts, walk_ends-whole ts) at w in
    let s : IsTold 0 (nodes ts) bounds = rw (l.at_ends) t in
    let z : 0 + i ≡ i = omega arith in
    let a : i ≤ slice_index bounds i = let b = s.ahead i (slice_get_within (nodes ts) i x g) in omega (arith, b) in
    let ke = s.ends i x g in
    let kids_at : slice_index bounds (suc i) ≡ first_kid i (slice_index bounds i) + width x.kids = subst (λ m. slice_index bounds (suc i) ≡ first_kid m (slice_index bounds i) + width x.kids) z ke in
    let kids : (c : ℕ) (y : Node A) → slice_get (roots x.kids) c ≡ Some y → (slice_get (nodes ts) (first_kid i (slice_index bounds i) + c) ≡ Some y) × (0 + (first_kid i (slice_index bounds i) + c) < slice_index bounds (first_kid i (slice_index bounds i) + c)) =
    λ c y r. s.kid i c (first_kid i (slice_index bounds i) + c) x y g r (rw z (omega arith)) in
    record {
      value = rw (l.in_order, slice_get-map, g) refl;
      kid_count = kids_at;
      kid = λ c y r. (kids c y r).0;
      later = first_kid-after i (slice_index bounds i) a;
      no_root = λ c h. let y = roots-within x.kids c h in let b = (kids c y.0 y.1).1 in omega (arith, b);
    }

starts-get : {A : Type 0} (at : ℕ) (ts : Forest A) (t n : ℕ) (x : Node A) → slice_get (roots ts) t ≡ Some x → slice_get (starts at ts) t ≡ Some n → (s : ℕ) × (n ≡ at + s) × (slice_get (nodes ts) s ≡ Some x)
starts-get at no_trees t n x h g = cc
starts-get at (tree_and v k r) zero n x h g =
    let e : at ≡ n = cc in
    (0, omega (arith, e), h)
starts-get at (tree_and v k r) (suc t) n x h g =
    let s = starts-get (at + length (level_order (tree_and v k no_trees))) r t n x h g in
    let a = s.1 in
    (length (level_order (tree_and v k no_trees)) + s.0, omega (arith, a), get-after (level_order (tree_and v k no_trees)) (nodes r) (length (level_order (tree_and v k no_trees)) + s.0) s.0 refl ∙ s.2)

-- tree t starts at the node in group t, whose bound is its own number
pub layout_root : {A : Type 0} {ts : Forest A} {groups bounds : List ℕ} {values : List A} → IsLayout ts groups bounds values → (t n : ℕ) (x : Node A) → slice_get (roots ts) t ≡ Some x → slice_get groups t ≡ Some n → slice_get (nodes ts) n ≡ Some x
layout_root {ts = ts} l t n x h g =
    let s = starts-get 0 ts t n x h (rw l.at_starts at g) in
    let e : n ≡ s.0 = let f = s.1 in omega (arith, f) in
    rw e s.2

own-get-here : (at b : ℕ) (bs : List ℕ) (t n : ℕ) → b ≡ at → slice_get (at ∷ own_places (suc at) bs) t ≡ Some n
    → ((t n : ℕ) → slice_get (own_places (suc at) bs) t ≡ Some n → (s : ℕ) × (n ≡ suc at + s) × (slice_index bs s ≡ n))
    → (s : ℕ) × (n ≡ at + s) × (slice_index (b ∷ bs) s ≡ n)
own-get-here at b bs zero n e h r = let a : at ≡ n = cc in (0, omega (arith, a), omega (arith, a, e))
own-get-here at b bs (suc t) n e h r =
    let s = r t n h in
    let a = s.1 in
    (suc s.0, omega (arith, a), s.2)

own-get : (at : ℕ) (bs : List ℕ) (t n : ℕ) → slice_get (own_places at bs) t ≡ Some n → (s : ℕ) × (n ≡ at + s) × (slice_index bs s ≡ n)
own-get at [] t n h = cc
own-get at (b ∷ bs) t n h = elim (cases_eq b at) [
  | inl e ↦ own-get-here at b bs t n e (let c : nat_eq b at ≡ true = eq-eqb b at e in rw c at h) (own-get (suc at) bs)
  | inr e ↦
      let c : nat_eq b at ≡ false = ne_eqb b at e in
      let s = own-get (suc at) bs t n (rw c at h) in
      let a = s.1 in
      (suc s.0, omega (arith, a), s.2)
]

-- the layout of one more tree
pub nodes-joined : {A : Type 0} (f g : Forest A) → nodes (joined_forest f g) ≡ nodes f ++ nodes g
nodes-joined no_trees g = refl
nodes-joined (tree_and v k r) g = rw (nodes-joined r g) (sym (append_assoc (level_order (tree_and v k no_trees)) (nodes r) (nodes g)))

ends-joined : {A : Type 0} (at : ℕ) (f g : Forest A) → kid_ends at (joined_forest f g) ≡ kid_ends at f ++ kid_ends (at + length (nodes f)) g
ends-joined at no_trees g = let z : at ≡ at + 0 = omega arith in ap (λ x. kid_ends x g) z
ends-joined at (tree_and v k r) g =
    let e = length-append (level_order (tree_and v k no_trees)) (nodes r) in
    let z : (at + length (level_order (tree_and v k no_trees))) + length (nodes r) ≡ at + length (level_order (tree_and v k no_trees) ++ nodes r) = omega (arith, e) in
    let h = ends-joined (at + length (level_order (tree_and v k no_trees))) r g in
    ap (λ x. totals (suc at) (kid_counts (level_order (tree_and v k no_trees))) ++ x) (h ∙ ap (λ x. kid_ends (at + length (level_order (tree_and v k no_trees))) r ++ kid_ends x g) z)
    ∙ sym (append_assoc (totals (suc at) (kid_counts (level_order (tree_and v k no_trees)))) (kid_ends (at + length (level_order (tree_and v k no_trees))) r) (kid_ends (at + length (level_order (tree_and v k no_trees) ++ nodes r)) g))

starts-joined : {A : Type 0} (at : ℕ) (f : Forest A) (v : A) (k : Forest A) → starts at (joined_forest f (tree_and v k no_trees)) ≡ starts at f ++ (at + length (nodes f) + length (level_order (tree_and v k no_trees))) ∷ []
starts-joined at no_trees v k =
    let z : at + length (level_order (tree_and v k no_trees)) ≡ (at + 0) + length (level_order (tree_and v k no_trees)) = omega arith in
    ap (λ x. at ∷ x ∷ []) z
starts-joined at (tree_and w l r) v k =
    let e = length-append (level_order (tree_and w l no_trees)) (nodes r) in
    let z : (at + length (level_order (tree_and w l no_trees))) + length (nodes r) ≡ at + length (level_order (tree_and w l no_trees) ++ nodes r) = omega (arith, e) in
    ap (λ x. at ∷ x) (starts-joined (at + length (level_order (tree_and w l no_trees))) r v k ∙ ap (λ x. starts (at + length (level_order (tree_and w l no_trees))) r ++ (x + length (level_order (tree_and v k no_trees))) ∷ []) z)

-- the layout of one more tree: its nodes follow the others, level by level
pub layout_pushed : {A : Type 0} {ts : Forest A} {groups bounds : List ℕ} {values : List A} (v : A) (k : Forest A) → IsLayout ts groups bounds values
    → IsLayout (joined_forest ts (tree_and v k no_trees)) (groups ++ (length values + length (level_order (tree_and v k no_trees))) ∷ [])
    (bounds ++ totals (suc (length values)) (kid_counts (level_order (tree_and v k no_trees)))) (values ++ values_of (level_order (tree_and v k no_trees)))
layout_pushed {A = A} {ts = ts} {groups = groups} {bounds = bounds} {values = values} v k l =
    let n : length values ≡ length (nodes ts) = ap length l.in_order ∙ length-map (nodes ts) (λ x. x.value) in
    let z : 0 + length (nodes ts) ≡ length values = omega (arith, n) in
    record {
      at_starts = ap (λ x. x ++ (length values + length (level_order (tree_and v k no_trees))) ∷ []) l.at_starts ∙ sym (starts-joined 0 ts v k ∙ ap (λ x. starts 0 ts ++ (x + length (level_order (tree_and v k no_trees))) ∷ []) z);
      at_ends = ap (λ x. x ++ totals (suc (length values)) (kid_counts (level_order (tree_and v k no_trees)))) l.at_ends
          ∙ ap (λ x. 0 ∷ x) (sym (ends-joined 0 ts (tree_and v k no_trees) ∙ (ap (λ x. kid_ends 0 ts ++ kid_ends x (tree_and v k no_trees)) z ∙ ap (λ x. kid_ends 0 ts ++ x) (append-nil (totals (suc (length values)) (kid_counts (level_order (tree_and v k no_trees))))))));
      in_order = ap (λ x. x ++ values_of (level_order (tree_and v k no_trees))) l.in_order
          ∙ sym (ap values_of (nodes-joined ts (tree_and v k no_trees)) ∙ (map-append (λ x. x.value) (nodes ts) (level_order (tree_and v k no_trees) ++ []) ∙ ap (λ x. values_of (nodes ts) ++ values_of x) (append-nil (level_order (tree_and v k no_trees)))));
    }

pub layout_none : (A : Type 0) → IsLayout {A = A} no_trees (0 ∷ []) (0 ∷ []) []
layout_none A = record { at_starts = refl; at_ends = refl; in_order = refl }

pub starts-length : {A : Type 0} (at : ℕ) (ts : Forest A) → length (starts at ts) ≡ suc (width ts)
starts-length at no_trees = refl
starts-length at (tree_and v k r) = ap suc (starts-length (at + length (level_order (tree_and v k no_trees))) r)

-- a group is a node whose bound is its own number
pub own_bound : (groups bounds : List ℕ) → groups ≡ own_places 0 bounds → (t : ℕ) {n : ℕ} → slice_get groups t ≡ Some n → slice_index bounds n ≡ n
own_bound groups bounds e t {n} g =
    let s = own-get 0 bounds t n (rw e at g) in
    let m : s.0 ≡ n = let a = s.1 in omega (arith, a) in
    rw m at s.2

own_has-step : (at b : ℕ) (bs : List ℕ) (k : ℕ) → (t : ℕ) × (slice_get (own_places (suc at) bs) t ≡ Some k) → (t : ℕ) × (slice_get (own_places at (b ∷ bs)) t ≡ Some k)
own_has-step at b bs k r = elim (cases_eq b at) [
  | inl f ↦ let c : nat_eq b at ≡ true = eq-eqb b at f in (suc r.0, rw c r.1)
  | inr f ↦ let c : nat_eq b at ≡ false = ne_eqb b at f in (r.0, rw c r.1)
]

-- the own places are exactly the indices of the numbers that equal their index ..
pub own_has : (at : ℕ) (bs : List ℕ) (i : ℕ) → i < length bs → slice_index bs i ≡ at + i → (t : ℕ) × (slice_get (own_places at bs) t ≡ Some (at + i))
own_has at [] i h e = absurd (omega (arith, h))
own_has at (b ∷ bs) zero h e =
    let z : at + 0 ≡ at = omega arith in
    let f : b ≡ at = e ∙ z in
    let c : nat_eq b at ≡ true = eq-eqb b at f in
    (0, rw (c, z) refl)
own_has at (b ∷ bs) (suc i) h e =
    let m : at + suc i ≡ suc at + i = omega arith in
    let r = own_has (suc at) bs i (omega (arith, h)) (e ∙ m) in
    own_has-step at b bs (at + suc i) (subst (λ x. (t : ℕ) × (slice_get (own_places (suc at) bs) t ≡ Some x)) (sym m) r)

own_rises-here : (at : ℕ) (bs : List ℕ) (t m n : ℕ) → slice_get (at ∷ own_places (suc at) bs) t ≡ Some m → slice_get (own_places (suc at) bs) t ≡ Some n
    → ((t m n : ℕ) → slice_get (own_places (suc at) bs) t ≡ Some m → slice_get (own_places (suc at) bs) (suc t) ≡ Some n → m < n) → m < n
own_rises-here at bs zero m n p q r =
    let s = own-get (suc at) bs 0 n q in
    let a = s.1 in
    let b : at ≡ m = cc in
    omega (arith, a, b)
own_rises-here at bs (suc t) m n p q r = r t m n p q

-- .. in increasing order
pub own_rises : (at : ℕ) (bs : List ℕ) (t m n : ℕ) → slice_get (own_places at bs) t ≡ Some m → slice_get (own_places at bs) (suc t) ≡ Some n → m < n
own_rises at [] t m n p q = cc
own_rises at (b ∷ bs) t m n p q = elim (cases_eq b at) [
  | inl f ↦ let c : nat_eq b at ≡ true = eq-eqb b at f in own_rises-here at bs t m n (rw c at p) (rw c at q) (own_rises (suc at) bs)
  | inr f ↦ let c : nat_eq b at ≡ false = ne_eqb b at f in own_rises (suc at) bs t m n (rw c at p) (rw c at q)
]
