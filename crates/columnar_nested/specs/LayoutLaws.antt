-- The trees of a layout are read back from it, and a layout satisfies the rule of trees.
use Rattle.std.proofs.Common.{◌≡◌, ℕ, zero, suc, ◌+◌, ◌-◌, ◌<◌, ◌≤◌, true, false, ◌&&◌, List, [], ◌∷◌, length, refl, sym, ◌∙◌, ap, subst, arith}
use Rattle.std.specs.Prelude.{nat_eq, nat_le, slice_index}
use Rattle.std.proofs.lemmas.Bool.{and_parts, and_from, eqb-true, eq-eqb, leb-true, false≢true}
use Rattle.std.proofs.lemmas.List.{length-map}
use Rattle.columnar_nested.specs.Forest.{Forest, no_trees, tree_and, width}
use Rattle.columnar_nested.specs.Layout.{IsLayout, IsTreeRule, nodes, values_of, starts, kid_ends, own_places, keeps}
use Rattle.columnar_nested.specs.Reading.{pending, trees_from, trees_of}
use Rattle.columnar_nested.specs.WalkLaws.{walk_nodes, walk_ends, walk_nodes-whole, walk_ends-whole, walk_starts-whole}
use Rattle.columnar_nested.specs.OneForestLaws.{read_all, kept_all, made_all, keeps-step}
use Rattle.columnar_nested.specs.Layouts.{IsOne, IsPassed}

-- a list of trees is read back from its layout
pub layout_read : {A : Type 0} {ts : Forest A} {groups bounds : List ℕ} {values : List A} → IsLayout ts groups bounds values → trees_of bounds values ≡ ts
layout_read {ts = ts} l =
    let r = read_all 0 no_trees ts in
    let t = r.trees in
    rw (l.at_ends, l.in_order) (rw (walk_ends-whole ts, walk_nodes-whole ts) at t)

pub keeps-count : (j b : ℕ) (bs : List ℕ) (n : ℕ) → keeps j b bs n ≡ true → j + length bs ≡ n
keeps-count j b [] n h = let e = eqb-true j n (and_parts (nat_eq b n) (nat_eq j n) h).1 in omega arith
keeps-count j b (c ∷ cs) n h =
    let p = and_parts (nat_le b c && nat_le (suc j) c) (keeps (suc j) c cs n) h in
    let r = keeps-count (suc j) c cs n p.1 in
    omega arith

pub keeps-last : (j b : ℕ) (bs : List ℕ) (n : ℕ) → keeps j b bs n ≡ true → slice_index (b ∷ bs) (length bs) ≡ n
keeps-last j b [] n h = eqb-true b n (and_parts (nat_eq b n) (nat_eq j n) h).0
keeps-last j b (c ∷ cs) n h = keeps-last (suc j) c cs n (and_parts (nat_le b c && nat_le (suc j) c) (keeps (suc j) c cs n) h).1

pub keeps-rises : (j b : ℕ) (bs : List ℕ) (n : ℕ) → keeps j b bs n ≡ true → (i : ℕ) → i < length bs → slice_index (b ∷ bs) i ≤ slice_index (b ∷ bs) (suc i)
keeps-rises j b [] n h i l = absurd (omega arith)
keeps-rises j b (c ∷ cs) n h zero l =
    let p = and_parts (nat_le b c && nat_le (suc j) c) (keeps (suc j) c cs n) h in
    leb-true b c (and_parts (nat_le b c) (nat_le (suc j) c) p.0).0
keeps-rises j b (c ∷ cs) n h (suc i) l =
    let p = and_parts (nat_le b c && nat_le (suc j) c) (keeps (suc j) c cs n) h in
    keeps-rises (suc j) c cs n p.1 i (omega arith)

pub keeps-ahead : (j b : ℕ) (bs : List ℕ) (n : ℕ) → keeps j b bs n ≡ true → j ≤ b → (i : ℕ) → i ≤ length bs → j + i ≤ slice_index (b ∷ bs) i
keeps-ahead j b bs n h l zero m = omega arith
keeps-ahead j b [] n h l (suc i) m = absurd (omega arith)
keeps-ahead j b (c ∷ cs) n h l (suc i) m =
    let p = and_parts (nat_le b c && nat_le (suc j) c) (keeps (suc j) c cs n) h in
    let y : suc j ≤ c = leb-true (suc j) c (and_parts (nat_le b c) (nat_le (suc j) c) p.0).1 in
    let r = keeps-ahead (suc j) c cs n p.1 y i (omega arith) in
    omega (arith, r)

pub keeps-from : (j b : ℕ) (bs : List ℕ) (n : ℕ) → j + length bs ≡ n → slice_index (b ∷ bs) (length bs) ≡ n
    → ((i : ℕ) → i < length bs → slice_index (b ∷ bs) i ≤ slice_index (b ∷ bs) (suc i))
    → ((i : ℕ) → i ≤ length bs → j + i ≤ slice_index (b ∷ bs) i) → keeps j b bs n ≡ true
keeps-from j b [] n e l rise ahead = and_from _ _ (eq-eqb b n l) (eq-eqb j n (omega (arith, e)))
keeps-from j b (c ∷ cs) n e l rise ahead =
    let r : b ≤ c = rise 0 (omega arith) in
    let a : j + 1 ≤ c = ahead 1 (omega arith) in
    keeps-step j b c cs n r (omega (arith, a)) (keeps-from (suc j) c cs n (omega (arith, e)) l (λ i m. rise (suc i) (omega (arith, m))) (λ i m. let x = ahead (suc i) (omega (arith, m)) in omega (arith, x)))

-- one pass decides the rule
pub rule_passed : {groups bounds : List ℕ} {n : ℕ} → IsTreeRule groups bounds n → IsPassed groups bounds n
rule_passed {groups = groups} {bounds = []} {n = n} r = absurd (let c = r.count in omega (arith, c))
rule_passed {groups = groups} {bounds = b ∷ bs} {n = n} r =
    let c = r.count in
    let m : n ≡ length bs = omega (arith, c) in
    let last_at_end : slice_index (b ∷ bs) (length bs) ≡ length bs = subst (λ x. slice_index (b ∷ bs) x ≡ x) m r.last in
    record {
      keep = and_from _ _ (eq-eqb b 0 r.first) (keeps-from 0 b bs n (omega (arith, m)) (last_at_end ∙ sym m) (λ i l. r.never_falls i (omega (arith, l, m))) (λ i l. let x = r.ahead i (omega (arith, l, m)) in omega (arith, x)));
      at_own_places = r.at_own_places;
    }

pub passed_rule : {groups bounds : List ℕ} {n : ℕ} → IsPassed groups bounds n → IsTreeRule groups bounds n
passed_rule {groups = groups} {bounds = []} {n = n} p = let x = p.keep in absurd (false≢true x)
passed_rule {groups = groups} {bounds = b ∷ bs} {n = n} p =
    let q = and_parts (nat_eq b 0) (keeps 0 b bs n) p.keep in
    let z : b ≡ 0 = eqb-true b 0 q.0 in
    let c = keeps-count 0 b bs n q.1 in
    let m : length bs ≡ n = omega (arith, c) in
    let l = keeps-last 0 b bs n q.1 in
    record {
      count = ap suc m;
      first = z;
      last = rw m at l;
      never_falls = λ j h. keeps-rises 0 b bs n q.1 j (omega (arith, h, m));
      ahead = λ j h. let x = keeps-ahead 0 b bs n q.1 (omega arith) j (omega (arith, h, m)) in omega (arith, x);
      at_own_places = p.at_own_places;
    }

-- the layout of trees satisfies the rule
pub layout_passes : {A : Type 0} {ts : Forest A} {groups bounds : List ℕ} {values : List A} → IsLayout ts groups bounds values → IsPassed groups bounds (length values)
layout_passes {ts = ts} l =
    let k = kept_all 0 no_trees ts in
    let a = k.keep in
    let b = k.groups_at in
    let z : 0 + length (nodes ts) ≡ length (nodes ts) = omega arith in
    let a1 = rw (walk_ends-whole ts, walk_nodes-whole ts, z) at a in
    let b1 = rw (walk_ends-whole ts, walk_starts-whole ts) at b in
    record {
      keep = rw (l.at_ends, l.in_order, length-map (nodes ts) (λ x. x.value)) a1;
      at_own_places = rw (l.at_starts, l.at_ends) (sym b1);
    }

width-zero : {A : Type 0} (f : Forest A) → width f ≡ 0 → f ≡ no_trees
width-zero no_trees h = refl
width-zero (tree_and v k r) h = absurd (omega (arith, h))

-- lists that satisfy the rule are the layout of the trees that are read from them
pub passed_layout : {A : Type 0} {groups bounds : List ℕ} {values : List A} → IsPassed groups bounds (length values) → IsLayout (trees_of bounds values) groups bounds values
passed_layout {groups = groups} {bounds = []} {values = values} p = let x = p.keep in absurd (false≢true x)
passed_layout {groups = groups} {bounds = b ∷ bs} {values = values} p =
    let q = and_parts (nat_eq b 0) (keeps 0 b bs (length values)) p.keep in
    let z : b ≡ 0 = eqb-true b 0 q.0 in
    let c = keeps-count 0 b bs (length values) q.1 in
    let m = made_all 0 b bs values (length values) q.1 (omega arith) (omega (arith, c)) in
    let nothing_left : pending 0 b bs values ≡ no_trees = let w = m.wide in width-zero (pending 0 b bs values) (omega (arith, w, z)) in
    let e : kid_ends 0 (trees_from 0 b bs values) ≡ bs =
    sym (walk_ends-whole (trees_from 0 b bs values)) ∙ (ap (λ x. walk_ends 0 x (trees_from 0 b bs values)) (sym nothing_left) ∙ m.bounds_same) in
    let v : values_of (nodes (trees_from 0 b bs values)) ≡ values =
    ap values_of (sym (walk_nodes-whole (trees_from 0 b bs values)) ∙ ap (λ x. walk_nodes x (trees_from 0 b bs values)) (sym nothing_left)) ∙ m.values_same in
    let k = kept_all 0 no_trees (trees_from 0 b bs values) in
    let g = k.groups_at in
    let g1 : own_places 0 (0 ∷ kid_ends 0 (trees_from 0 b bs values)) ≡ starts 0 (trees_from 0 b bs values) = rw (walk_ends-whole (trees_from 0 b bs values), walk_starts-whole (trees_from 0 b bs values)) at g in
    record {
      at_starts = p.at_own_places ∙ (ap (own_places 0) (ap (λ x. x ∷ bs) z ∙ ap (λ x. 0 ∷ x) (sym e)) ∙ g1);
      at_ends = ap (λ x. x ∷ bs) z ∙ ap (λ x. 0 ∷ x) (sym e);
      in_order = sym v;
    }

-- the theorem
pub rule_one : {A : Type 0} {groups bounds : List ℕ} {values : List A} → IsTreeRule groups bounds (length values) → IsOne groups bounds values
rule_one {bounds = bounds} {values = values} r = record {
  trees = trees_of bounds values;
  has = passed_layout (rule_passed r);
  only = λ us l. sym (layout_read l);
}

pub one_rule : {A : Type 0} {groups bounds : List ℕ} {values : List A} → IsOne groups bounds values → IsTreeRule groups bounds (length values)
one_rule o = passed_rule (layout_passes o.has)

-- the layout of trees satisfies the rule for the same lists
pub layout_rule : {A : Type 0} {ts : Forest A} {groups bounds : List ℕ} {values : List A} → IsLayout ts groups bounds values → IsTreeRule groups bounds (length values)
layout_rule l = passed_rule (layout_passes l)
