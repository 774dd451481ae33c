-- The rule of layouts holds if and only if exactly one list of trees has that layout.
use Rattle.std.proofs.Common.{◌≡◌, ℕ, zero, suc, ◌+◌, ◌-◌, ◌<◌, ◌≤◌, true, false, ◌&&◌, List, [], ◌∷◌, length, refl, sym, ◌∙◌, ap, arith, inl, inr}
use Rattle.std.specs.Prelude.{nat_eq, nat_le}
use Rattle.std.proofs.lemmas.Bool.{cases_lt, ne_eqb, and_parts, and_from, eqb-true, eq-eqb, leb-true, le-leb}
use Rattle.columnar_nested.specs.Forest.{Forest, no_trees, tree_and, width}
use Rattle.columnar_nested.specs.Layout.{nodes, values_of, starts, own_places, keeps}
use Rattle.columnar_nested.specs.ForestLaws.{joined_forest, width-joined}
use Rattle.columnar_nested.specs.Reading.{first_trees, later_trees, pending, trees_from}
use Rattle.columnar_nested.specs.WalkLaws.{walk_nodes, walk_ends, walk_starts, nodes-root, nodes-next, ends-root, ends-next, starts-root, starts-next, nodes-done, ends-done, starts-done, walk_all}

pub eq-false : (m n : ℕ) → n < m → nat_eq m n ≡ false
eq-false m n h = ne_eqb m n (λ e. omega arith)

first-joined : {A : Type 0} (f g : Forest A) → first_trees (width f) (joined_forest f g) ≡ f
first-joined no_trees g = refl
first-joined (tree_and v k r) g = ap (tree_and v k) (first-joined r g)

later-joined : {A : Type 0} (f g : Forest A) → later_trees (width f) (joined_forest f g) ≡ g
later-joined no_trees g = refl
later-joined (tree_and v k r) g = later-joined r g

joined-cut : {A : Type 0} (n : ℕ) (f : Forest A) → joined_forest (first_trees n f) (later_trees n f) ≡ f
joined-cut zero f = refl
joined-cut (suc n) no_trees = refl
joined-cut (suc n) (tree_and v k r) = ap (tree_and v k) (joined-cut n r)

width-first : {A : Type 0} (n : ℕ) (f : Forest A) → n ≤ width f → width (first_trees n f) ≡ n
width-first zero f h = refl
width-first (suc n) no_trees h = absurd (omega arith)
width-first (suc n) (tree_and v k r) h = ap suc (width-first n r (omega arith))

-- one step of reading, at the start of a tree and within one
pending-root : {A : Type 0} (j b c : ℕ) (cs : List ℕ) (v : A) (vs : List A) → b ≡ j → pending j b (c ∷ cs) (v ∷ vs) ≡ no_trees
pending-root j b c cs v vs e = let t : nat_eq b j ≡ true = eq-eqb b j e in rw t refl

trees-root : {A : Type 0} (j b c : ℕ) (cs : List ℕ) (v : A) (vs : List A) → b ≡ j → trees_from j b (c ∷ cs) (v ∷ vs) ≡ tree_and v (pending (suc j) c cs vs) (trees_from (suc j) c cs vs)
trees-root j b c cs v vs e = let t : nat_eq b j ≡ true = eq-eqb b j e in rw t refl

pending-next : {A : Type 0} (j b c : ℕ) (cs : List ℕ) (v : A) (vs : List A) → j < b → pending j b (c ∷ cs) (v ∷ vs) ≡ tree_and v (later_trees (b - suc j) (pending (suc j) c cs vs)) (first_trees (b - suc j) (pending (suc j) c cs vs))
pending-next j b c cs v vs l = let t : nat_eq b j ≡ false = eq-false b j l in rw t refl

trees-next : {A : Type 0} (j b c : ℕ) (cs : List ℕ) (v : A) (vs : List A) → j < b → trees_from j b (c ∷ cs) (v ∷ vs) ≡ trees_from (suc j) c cs vs
trees-next j b c cs v vs l = let t : nat_eq b j ≡ false = eq-false b j l in rw t refl

-- reading returns the trees of a walk
pub record IsReadForest {A : Type 0} (j : ℕ) (q ts : Forest A) : Type 0 where
  pub queue : pending j (j + width q) (walk_ends j q ts) (values_of (walk_nodes q ts)) ≡ q
  pub trees : trees_from j (j + width q) (walk_ends j q ts) (values_of (walk_nodes q ts)) ≡ ts

read-done : {A : Type 0} (j : ℕ) → IsReadForest {A = A} j no_trees no_trees
read-done {A = A} j = record { queue = rw (ends-done A j) refl; trees = rw (ends-done A j) refl }

read-root : {A : Type 0} (j : ℕ) (v : A) (k r : Forest A) → IsReadForest (suc j) k r → IsReadForest j no_trees (tree_and v k r)
read-root j v k r h =
    let b : j + 0 ≡ j = omega arith in
    let e = ends-root j v k r in
    let n : values_of (walk_nodes no_trees (tree_and v k r)) ≡ v ∷ values_of (walk_nodes k r) = ap values_of (nodes-root v k r) in
    let p = pending-root j (j + 0) (suc j + width k) (walk_ends (suc j) k r) v (values_of (walk_nodes k r)) b in
    let t = trees-root j (j + 0) (suc j + width k) (walk_ends (suc j) k r) v (values_of (walk_nodes k r)) b in
    record {
      queue = rw (e, n) p;
      trees = rw (e, n) (t ∙ rw (h.queue, h.trees) refl);
    }

read-next : {A : Type 0} (j : ℕ) (v : A) (k r ts : Forest A) → IsReadForest (suc j) (joined_forest r k) ts → IsReadForest j (tree_and v k r) ts
read-next j v k r ts h =
    let b : j < j + suc (width r) = omega arith in
    let d : (j + suc (width r)) - suc j ≡ width r = omega arith in
    let e = ends-next j v k r ts in
    let n : values_of (walk_nodes (tree_and v k r) ts) ≡ v ∷ values_of (walk_nodes (joined_forest r k) ts) = ap values_of (nodes-next v k r ts) in
    let p = pending-next j (j + suc (width r)) (suc j + width (joined_forest r k)) (walk_ends (suc j) (joined_forest r k) ts) v (values_of (walk_nodes (joined_forest r k) ts)) b in
    let t = trees-next j (j + suc (width r)) (suc j + width (joined_forest r k)) (walk_ends (suc j) (joined_forest r k) ts) v (values_of (walk_nodes (joined_forest r k) ts)) b in
    record {
      queue = rw (e, n) (p ∙ rw (h.queue, d, later-joined r k, first-joined r k) refl);
      trees = rw (e, n) (t ∙ h.trees);
    }

pub read_all : {A : Type 0} (j : ℕ) (q ts : Forest A) → IsReadForest j q ts
read_all {A = A} j q ts = walk_all (λ j q ts. IsReadForest {A = A} j q ts) read-done read-root read-next j q ts

-- the rule, at node j with the bound b, for the following bounds bs
pub record IsKept {A : Type 0} (j : ℕ) (q ts : Forest A) : Type 0 where
  pub keep : keeps j (j + width q) (walk_ends j q ts) (j + length (walk_nodes q ts)) ≡ true
  pub groups_at : own_places j ((j + width q) ∷ walk_ends j q ts) ≡ walk_starts j q ts

kept-done : {A : Type 0} (j : ℕ) → IsKept {A = A} j no_trees no_trees
kept-done {A = A} j =
    let z : j + 0 ≡ j = omega arith in
    let t : nat_eq (j + 0) j ≡ true = eq-eqb (j + 0) j z in
    record {
      keep = rw (ends-done A j, nodes-done A) (and_from _ _ (eq-eqb (j + 0) (j + 0) refl) (eq-eqb j (j + 0) (sym z)));
      groups_at = rw (ends-done A j, starts-done A j, t) refl;
    }

pub keeps-step : (j b c : ℕ) (cs : List ℕ) (n : ℕ) → b ≤ c → suc j ≤ c → keeps (suc j) c cs n ≡ true → keeps j b (c ∷ cs) n ≡ true
keeps-step j b c cs n x y z = and_from _ _ (and_from _ _ (le-leb b c x) (le-leb (suc j) c y)) z

kept-root : {A : Type 0} (j : ℕ) (v : A) (k r : Forest A) → IsKept (suc j) k r → IsKept j no_trees (tree_and v k r)
kept-root j v k r h =
    let z : j + 0 ≡ j = omega arith in
    let t : nat_eq (j + 0) j ≡ true = eq-eqb (j + 0) j z in
    let n : length (walk_nodes no_trees (tree_and v k r)) ≡ suc (length (walk_nodes k r)) = ap length (nodes-root v k r) in
    let m : j + suc (length (walk_nodes k r)) ≡ suc j + length (walk_nodes k r) = omega arith in
    let e = ends-root j v k r in
    let s = starts-root j v k r in
    record {
      keep = rw (e, n, m) (keeps-step j (j + 0) (suc j + width k) (walk_ends (suc j) k r) (suc j + length (walk_nodes k r)) (omega arith) (omega arith) h.keep);
      groups_at = rw (e, s, t) (ap (λ x. j ∷ x) h.groups_at);
    }

kept-next : {A : Type 0} (j : ℕ) (v : A) (k r ts : Forest A) → IsKept (suc j) (joined_forest r k) ts → IsKept j (tree_and v k r) ts
kept-next j v k r ts h =
    let w = width-joined r k in
    let t : nat_eq (j + suc (width r)) j ≡ false = eq-false (j + suc (width r)) j (omega arith) in
    let n : length (walk_nodes (tree_and v k r) ts) ≡ suc (length (walk_nodes (joined_forest r k) ts)) = ap length (nodes-next v k r ts) in
    let m : j + suc (length (walk_nodes (joined_forest r k) ts)) ≡ suc j + length (walk_nodes (joined_forest r k) ts) = omega arith in
    let e = ends-next j v k r ts in
    let s = starts-next j v k r ts in
    record {
      keep = rw (e, n, m) (keeps-step j (j + suc (width r)) (suc j + width (joined_forest r k)) (walk_ends (suc j) (joined_forest r k) ts) (suc j + length (walk_nodes (joined_forest r k) ts)) (omega arith) (omega arith) h.keep);
      groups_at = rw (e, s, t) h.groups_at;
    }

pub kept_all : {A : Type 0} (j : ℕ) (q ts : Forest A) → IsKept j q ts
kept_all {A = A} j q ts = walk_all (λ j q ts. IsKept {A = A} j q ts) kept-done kept-root kept-next j q ts

-- the trees that were read from bounds that satisfy the rule have these bounds
pub record IsMade {A : Type 0} (j b : ℕ) (bs : List ℕ) (vs : List A) : Type 0 where
  pub wide : j + width (pending j b bs vs) ≡ b
  pub bounds_same : walk_ends j (pending j b bs vs) (trees_from j b bs vs) ≡ bs
  pub values_same : values_of (walk_nodes (pending j b bs vs) (trees_from j b bs vs)) ≡ vs

made-done : {A : Type 0} (j b n : ℕ) → keeps j b [] n ≡ true → IsMade {A = A} j b [] []
made-done {A = A} j b n h =
    let p = and_parts (nat_eq b n) (nat_eq j n) h in
    let x = eqb-true b n p.0 in
    let y = eqb-true j n p.1 in
    record { wide = omega arith; bounds_same = ends-done A j; values_same = ap values_of (nodes-done A) }

made-root : {A : Type 0} (j b c : ℕ) (cs : List ℕ) (v : A) (vs : List A) → b ≡ j → IsMade (suc j) c cs vs → IsMade j b (c ∷ cs) (v ∷ vs)
made-root {A = A} j b c cs v vs e h =
    let p = pending-root j b c cs v vs e in
    let t = trees-root j b c cs v vs e in
    record {
      wide = ap (λ x. j + width x) p ∙ omega (arith, e);
      bounds_same = ap (λ x. walk_ends j x (trees_from j b (c ∷ cs) (v ∷ vs))) p ∙ (ap (walk_ends j no_trees) t ∙ (ends-root j v (pending (suc j) c cs vs) (trees_from (suc j) c cs vs) ∙ rw (h.wide, h.bounds_same) refl));
      values_same = ap (λ x. values_of (walk_nodes x (trees_from j b (c ∷ cs) (v ∷ vs)))) p ∙ (ap (λ x. values_of (walk_nodes no_trees x)) t ∙ (ap values_of (nodes-root v (pending (suc j) c cs vs) (trees_from (suc j) c cs vs)) ∙ ap (λ x. v ∷ x) h.values_same));
    }

made-next : {A : Type 0} (j b c : ℕ) (cs : List ℕ) (v : A) (vs : List A) → j < b → b ≤ c → IsMade (suc j) c cs vs → IsMade j b (c ∷ cs) (v ∷ vs)
made-next {A = A} j b c cs v vs l le h =
    let p = pending-next j b c cs v vs l in
    let t = trees-next j b c cs v vs l in
    let w : width (first_trees (b - suc j) (pending (suc j) c cs vs)) ≡ b - suc j = let x = h.wide in width-first (b - suc j) (pending (suc j) c cs vs) (omega arith) in
    let k = joined-cut (b - suc j) (pending (suc j) c cs vs) in
    record {
      wide = ap (λ x. j + width x) p ∙ omega (arith, w, l);
      bounds_same = ap (λ x. walk_ends j x (trees_from j b (c ∷ cs) (v ∷ vs))) p ∙ (ap (walk_ends j (tree_and v (later_trees (b - suc j) (pending (suc j) c cs vs)) (first_trees (b - suc j) (pending (suc j) c cs vs)))) t
          ∙ (ends-next j v (later_trees (b - suc j) (pending (suc j) c cs vs)) (first_trees (b - suc j) (pending (suc j) c cs vs)) (trees_from (suc j) c cs vs) ∙ rw (k, h.wide, h.bounds_same) refl));
      values_same = ap (λ x. values_of (walk_nodes x (trees_from j b (c ∷ cs) (v ∷ vs)))) p ∙ (ap (λ x. values_of (walk_nodes (tree_and v (later_trees (b - suc j) (pending (suc j) c cs vs)) (first_trees (b - suc j) (pending (suc j) c cs vs))) x)) t
          ∙ (ap values_of (nodes-next v (later_trees (b - suc j) (pending (suc j) c cs vs)) (first_trees (b - suc j) (pending (suc j) c cs vs)) (trees_from (suc j) c cs vs)) ∙ rw k (ap (λ x. v ∷ x) h.values_same)));
    }

pub made_all : {A : Type 0} (j b : ℕ) (bs : List ℕ) (vs : List A) (n : ℕ) → keeps j b bs n ≡ true → j ≤ b → length vs ≡ length bs → IsMade j b bs vs
made_all j b [] [] n h l e = made-done j b n h
made_all j b [] (v ∷ vs) n h l e = absurd (omega (arith, e))
made_all j b (c ∷ cs) [] n h l e = absurd (omega (arith, e))
made_all j b (c ∷ cs) (v ∷ vs) n h l e =
    let p = and_parts (nat_le b c && nat_le (suc j) c) (keeps (suc j) c cs n) h in
    let q = and_parts (nat_le b c) (nat_le (suc j) c) p.0 in
    let x : b ≤ c = leb-true b c q.0 in
    let y : suc j ≤ c = leb-true (suc j) c q.1 in
    let m = made_all (suc j) c cs vs n p.1 y (omega (arith, e)) in
    elim (cases_lt j b) [ inl a ↦ made-next j b c cs v vs a x m | inr a ↦ made-root j b c cs v vs (omega arith) m ]
