use Rattle.std.proofs.Common.{◌≡◌, ℕ, ◌+◌, ◌<◌, ◌≤◌, List, [], ◌∷◌, ◌++◌, map, length, refl, sym, ◌∙◌, ap, arith}
use Rattle.std.specs.Prelude.{sum, sum_by, slice_index_or, drop}
use Rattle.std.proofs.lemmas.List.{drop_more}
use Rattle.std.proofs.lemmas.List.Sums.{sum_by-cons, sum-map}
use Rattle.columnar_nested.specs.Forest.{Node, side_by_side, in_line, levels, level_order}
use Rattle.columnar_nested.specs.ForestLaws.{levels-joined}
use Rattle.columnar_nested.specs.TreeValues.{node_of, trees_as_forest, in_order, values_in}
use Rattle.columnar_nested.specs.PushStepLaws.{in_order-step, as_forest-append, node_of-out}
use Rattle.columnar_nested.specs.Weights.{total, weight, count, value_sum, uncopied}
use Rattle.columnar_nested.specs.declared.tree.Tree.{Tree}
use Rattle.columnar_nested.specs.declared.tree.Tree.TheViews.{out-Tree}

total-append : {X : Type 0} (h : X → ℕ) (xs ys : List X) → total h (xs ++ ys) ≡ total h xs + total h ys
total-append h [] ys = omega arith
total-append h (x ∷ xs) ys = let e = total-append h xs ys in omega (arith, e)

-- the weight of joined levels is the sum of their weights
total-beside : {X : Type 0} (h : X → ℕ) (xs ys : List (List X)) → total h (in_line (side_by_side xs ys)) ≡ total h (in_line xs) + total h (in_line ys)
total-beside h [] ys = omega arith
total-beside h (x ∷ xs) [] = omega arith
total-beside h (x ∷ xs) (y ∷ ys) =
    let e = total-beside h xs ys in
    let a = total-append h (x ++ y) (in_line (side_by_side xs ys)) in
    let b = total-append h x y in
    let c = total-append h x (in_line xs) in
    let d = total-append h y (in_line ys) in
    omega (arith, e, a, b, c, d)

pub weight-append : (T : Type 0) (h : Node T → ℕ) (ts us : List (Tree T)) → weight h (ts ++ us) ≡ weight h ts + weight h us
weight-append T h ts us =
    ap (λ f. total h (level_order f)) (as_forest-append (λ x. x) ts us)
    ∙ (ap (λ l. total h (in_line l)) (levels-joined (trees_as_forest (λ x. x) ts) (trees_as_forest (λ x. x) us))
    ∙ total-beside h (levels (trees_as_forest (λ x. x) ts)) (levels (trees_as_forest (λ x. x) us)))

-- the weight of a tree is that of its root and its children
pub weight-step : (T : Type 0) (h : Node T → ℕ) (t : Tree T) (ts : List (Tree T)) → weight h (t ∷ ts) ≡ h (node_of (λ x. x) t) + (weight h (out-Tree T t).kids.items + weight h ts)
weight-step T h t ts =
    let e = ap (total h) (in_order-step T T (λ x. x) t ts) in
    let a = weight-append T h ts (out-Tree T t).kids.items in
    omega (arith, e, a)

pub count-step : (T : Type 0) (t : Tree T) (ts : List (Tree T)) → count (t ∷ ts) ≡ 1 + (count (out-Tree T t).kids.items + count ts)
count-step T t ts = weight-step T (λ n. 1) t ts

pub count-append : (T : Type 0) (ts us : List (Tree T)) → count (ts ++ us) ≡ count ts + count us
count-append T ts us = weight-append T (λ n. 1) ts us

-- the first tree weighs no more than all
pub count-first : (T : Type 0) (t : Tree T) (ts : List (Tree T)) → count (t ∷ ts) ≡ count (t ∷ []) + count ts
count-first T t ts = count-append T (t ∷ []) ts

-- steps of loops over nodes: all weigh at most n, and the children of the current node are pushed after the others, or
-- not
pub kids_lighter : (T : Type 0) (t : Tree T) (waiting us : List (Tree T)) {n : ℕ} → us ≡ (out-Tree T t).kids.items → count (t ∷ waiting) ≤ n → count us < n
kids_lighter T t waiting us e l =
    let s = count-step T t waiting in
    let k = ap count e in
    omega (arith, s, k, l)

pub rest_lighter : (T : Type 0) (t : Tree T) (ts us : List (Tree T)) {n : ℕ} → us ≡ t ∷ ts → count us < n → count ts < n
rest_lighter T t ts us e l =
    let s = count-step T t ts in
    let k = ap count e in
    omega (arith, s, k, l)

pub rest_fewer : (T : Type 0) (t : Tree T) (ts us : List (Tree T)) → us ≡ t ∷ ts → count ts < count us
rest_fewer T t ts us e =
    let s = count-step T t ts in
    let k = ap count e in
    omega (arith, s, k)

pub first_lighter : (T : Type 0) (t : Tree T) (ts us : List (Tree T)) {n : ℕ} → us ≡ t ∷ ts → count us < n → count (t ∷ []) < n
first_lighter T t ts us e l =
    let s = count-first T t ts in
    let k = ap count e in
    omega (arith, s, k, l)

pub queue_fewer : (T : Type 0) (t u : Tree T) (waiting us rest : List (Tree T)) → us ≡ waiting ++ (out-Tree T t).kids.items → us ≡ u ∷ rest → count (u ∷ rest) < count (t ∷ waiting)
queue_fewer T t u waiting us rest e f =
    let s = count-step T t waiting in
    let a = count-append T waiting (out-Tree T t).kids.items in
    let k = ap count e in
    let m = ap count f in
    omega (arith, s, a, k, m)

pub queue_left : (T : Type 0) (t u : Tree T) (waiting us rest : List (Tree T)) → us ≡ waiting → us ≡ u ∷ rest → count (u ∷ rest) < count (t ∷ waiting)
queue_left T t u waiting us rest e f =
    let s = count-step T t waiting in
    let k = ap count e in
    let m = ap count f in
    omega (arith, s, k, m)

-- ---- sums of values

sum_by-total : {X : Type 0} (h : X → ℕ) (xs : List X) → sum_by h xs ≡ total h xs
sum_by-total h [] = refl
sum_by-total h (x ∷ xs) = sum_by-cons h x xs ∙ ap (λ n. h x + n) (sum_by-total h xs)

-- the sum of the values of a tree, level by level
pub sum_is : (t : Tree ℕ) → sum (values_in t) ≡ value_sum (t ∷ [])
sum_is t = sum-map (λ n. n.value) (in_order (λ x. x) (t ∷ [])) ∙ sum_by-total (λ n. n.value) (in_order (λ x. x) (t ∷ []))

pub sum-step : (t : Tree ℕ) (ts : List (Tree ℕ)) → value_sum (t ∷ ts) ≡ (out-Tree ℕ t).value + (value_sum (out-Tree ℕ t).kids.items + value_sum ts)
sum-step t ts =
    let e = weight-step ℕ (λ n. n.value) t ts in
    let v : (node_of (λ x. x) t).value ≡ (out-Tree ℕ t).value = ap (λ n. n.value) (node_of-out ℕ ℕ (λ x. x) t) in
    omega (arith, e, v)

pub sum-first : (t : Tree ℕ) (ts : List (Tree ℕ)) → value_sum (t ∷ ts) ≡ value_sum (t ∷ []) + value_sum ts
sum-first t ts = weight-append ℕ (λ n. n.value) (t ∷ []) ts

pub total-push : {X : Type 0} (h : X → ℕ) (xs : List X) (x : X) → total h (xs ++ x ∷ []) ≡ total h xs + h x
total-push h xs x = let e = total-append h xs (x ∷ []) in omega (arith, e)

-- the invariant of the loop that sums a tree: the trees `rest` come next, then those on the stack
pub record IsSummed (self : Tree ℕ) (sum : ℕ) (rest : List (Tree ℕ)) (later_sum later_count : ℕ) : Type 0 where
  pub summed : sum + (value_sum rest + later_sum) ≡ value_sum (self ∷ [])
  pub fewer : count rest + later_count < count (self ∷ [])

pub summed_start : (t : Tree ℕ) (v : ℕ) (kids : List (Tree ℕ)) → v ≡ (out-Tree ℕ t).value → kids ≡ (out-Tree ℕ t).kids.items → IsSummed t v kids 0 0
summed_start t v kids e f =
    let s = sum-step t [] in
    let c = count-step ℕ t [] in
    let k = ap value_sum f in
    let n = ap count f in
    record { summed = omega (arith, e, s, k); fewer = omega (arith, c, n) }

-- the current node is added, and its children come next
pub summed_kids : (self node : Tree ℕ) (sum : ℕ) (rest later : List (Tree ℕ)) (a b : ℕ) {next : List (Tree ℕ)} {p a' b' more : ℕ} → IsSummed self sum rest a b → rest ≡ node ∷ later → next ≡ (out-Tree ℕ node).kids.items → p ≡ (out-Tree ℕ node).value → a' ≡ a + value_sum later → b' ≡ b + count later → more ≡ sum + p → IsSummed self more next a' b'
summed_kids self node sum rest later a b {next} {p} {a'} {b'} {more} i e n v f g m =
    let s = sum-step node later in
    let c = count-step ℕ node later in
    let k = ap value_sum n in
    let o = ap count n in
    let r = ap value_sum e in
    let q = ap count e in
    record { summed = omega (arith, i.summed, s, k, r, v, f, m); fewer = omega (arith, i.fewer, c, o, q, g) }

-- a node is summed by itself, and its later siblings come next
pub summed_later : (self node : Tree ℕ) (sum : ℕ) (rest later : List (Tree ℕ)) (a b : ℕ) {p more : ℕ} → IsSummed self sum rest a b → rest ≡ node ∷ later → p ≡ value_sum (node ∷ []) → more ≡ sum + p → IsSummed self more later a b
summed_later self node sum rest later a b {p} {more} i e v m =
    let s = sum-first node later in
    let c = count-first ℕ node later in
    let r = ap value_sum e in
    let q = ap count e in
    record { summed = omega (arith, i.summed, s, r, v, m); fewer = omega (arith, i.fewer, c, q) }

-- a part is at most the whole
pub summed_within : (self node : Tree ℕ) (sum : ℕ) (rest later : List (Tree ℕ)) (a b : ℕ) → IsSummed self sum rest a b → rest ≡ node ∷ later → sum + value_sum (node ∷ []) ≤ value_sum (self ∷ [])
summed_within self node sum rest later a b i e =
    let s = sum-first node later in
    let r = ap value_sum e in
    omega (arith, i.summed, s, r)

pub value_within : (node : Tree ℕ) → (out-Tree ℕ node).value ≤ value_sum (node ∷ [])
value_within node = let s = sum-step node [] in omega (arith, s)

pub node_fewer : (self node : Tree ℕ) (sum : ℕ) (rest later : List (Tree ℕ)) (a b : ℕ) → IsSummed self sum rest a b → rest ≡ node ∷ later → count (node ∷ []) < count (self ∷ [])
node_fewer self node sum rest later a b i e =
    let c = count-first ℕ node later in
    let q = ap count e in
    omega (arith, i.fewer, c, q)

-- none of these trees remains, and the last ones on the stack come next
pub summed_pop : (self : Tree ℕ) (sum : ℕ) (rest next : List (Tree ℕ)) {a b a' b' : ℕ} → IsSummed self sum rest a b → length rest ≡ 0 → a ≡ a' + value_sum next → b ≡ b' + count next → IsSummed self sum next a' b'
summed_pop self sum [] next i e f g = record { summed = omega (arith, i.summed, f); fewer = omega (arith, i.fewer, g) }
summed_pop self sum (t ∷ ts) next i e f g = absurd (omega (arith, e))

pub popped_fewer : (rest next : List (Tree ℕ)) (b b' m m' : ℕ) → length rest ≡ 0 → b ≡ b' + count next → m ≡ m' + 1 → (count next + b') + ((count next + b') + m') < (count rest + b) + ((count rest + b) + m)
popped_fewer [] next b b' m m' e f g = omega (arith, f, g)
popped_fewer (t ∷ ts) next b b' m m' e f g = absurd (omega (arith, e))

-- no tree remains at all
pub summed_all : {X : Type 0} (self : Tree ℕ) (sum : ℕ) (rest : List (Tree ℕ)) (f g : X → ℕ) (waiting : List X) → IsSummed self sum rest (total f waiting) (total g waiting) → length rest ≡ 0 → length waiting ≡ 0 → sum ≡ value_sum (self ∷ [])
summed_all self sum [] f g [] i e h = omega (arith, i.summed)
summed_all self sum (t ∷ ts) f g waiting i e h = absurd (omega (arith, e))
summed_all self sum [] f g (x ∷ xs) i e h = absurd (omega (arith, h))

-- the children of a node come next, and the node does not occur again
pub kids_fewer : (node : Tree ℕ) (rest later next : List (Tree ℕ)) (b b' m m' : ℕ) → rest ≡ node ∷ later → next ≡ (out-Tree ℕ node).kids.items → b' ≡ b + count later → m' ≤ m + 1 → (count next + b') + ((count next + b') + m') < (count rest + b) + ((count rest + b) + m)
kids_fewer node rest later next b b' m m' e n f l =
    let c = count-step ℕ node later in
    let o = ap count n in
    let q = ap count e in
    omega (arith, c, o, q, f, l)

pub later_fewer : (node : Tree ℕ) (rest later : List (Tree ℕ)) (b m : ℕ) → rest ≡ node ∷ later → (count later + b) + ((count later + b) + m) < (count rest + b) + ((count rest + b) + m)
later_fewer node rest later b m e =
    let c = count-step ℕ node later in
    let q = ap count e in
    omega (arith, c, q)

-- ---- copies

-- a child is copied next, and its node goes on the stack
pub down_fewer : (T : Type 0) (kids : List (Tree T)) (d : ℕ) (kid : Tree T) (fresh : List (Tree T)) (b b' m m' : ℕ) → d < length kids → kid ≡ slice_index_or kids d kid → fresh ≡ [] → b' ≡ b + uncopied kids (d + 1) → m' ≡ m + 1
    → (uncopied (out-Tree T kid).kids.items (length fresh) + b') + ((uncopied (out-Tree T kid).kids.items (length fresh) + b') + m') < (uncopied kids d + b) + ((uncopied kids d + b) + m)
down_fewer T kids d kid fresh b b' m m' l e z f g =
    let h = ap count (drop_more kids d kid l) in
    let k = ap (λ t. count (t ∷ drop (d + 1) kids)) (sym e) in
    let s = count-step T kid (drop (d + 1) kids) in
    let n : uncopied (out-Tree T kid).kids.items (length fresh) ≡ count (out-Tree T kid).kids.items = ap (λ us. uncopied (out-Tree T kid).kids.items (length us)) z in
    omega (arith, h, k, s, n, f, g)

-- all children of a node were copied; the node is a child of the one on the stack
pub up_fewer : (T : Type 0) (kids pk copied : List (Tree T)) (d n : ℕ) (b b' m m' : ℕ) → length copied ≡ n + 1 → b ≡ b' + uncopied pk (n + 1) → m ≡ m' + 1
    → (uncopied pk (length copied) + b') + ((uncopied pk (length copied) + b') + m') < (uncopied kids d + b) + ((uncopied kids d + b) + m)
up_fewer T kids pk copied d n b b' m m' e f g =
    let h = ap (uncopied pk) e in
    omega (arith, h, f, g)
