-- What a walk over nodes says about their bounds.
use Rattle.std.proofs.Common.{◌≡◌, ℕ, zero, suc, ◌+◌, ◌-◌, ◌<◌, ◌≤◌, true, false, List, [], ◌∷◌, ◌++◌, length, refl, sym, ◌∙◌, ap, arith, inl, inr, append_assoc, append-nil}
use Rattle.std.specs.Prelude.{nat_eq, slice_index, slice_get, Some}
use Rattle.std.proofs.lemmas.Bool.{eq-eqb, cases_lt}
use Rattle.std.proofs.lemmas.Option.{slice_get_within}
use Rattle.columnar_nested.specs.Forest.{Forest, no_trees, tree_and, Node, width, roots, level_order, levels, in_line, side_by_side}
use Rattle.columnar_nested.specs.Layout.{nodes}
use Rattle.columnar_nested.specs.ForestLaws.{joined_forest, width-joined}
use Rattle.columnar_nested.specs.WalkLaws.{walk_nodes, walk_ends, nodes-root, nodes-next, ends-root, ends-next, nodes-done, ends-done, walk_all}
use Rattle.columnar_nested.specs.OneForestLaws.{eq-false}
use Rattle.columnar_nested.specs.Nodes.{first_kid, below, head_level, IsTold}

pub length-roots : {A : Type 0} (f : Forest A) → length (roots f) ≡ width f
length-roots no_trees = refl
length-roots (tree_and v k r) = ap suc (length-roots r)

roots-joined : {A : Type 0} (f g : Forest A) → roots (joined_forest f g) ≡ roots f ++ roots g
roots-joined no_trees g = refl
roots-joined (tree_and v k r) g = ap (λ x. record { value = v; kids = k } ∷ x) (roots-joined r g)

in_line-parts : {X : Type 0} (xs : List (List X)) → in_line xs ≡ head_level xs ++ below xs
in_line-parts [] = refl
in_line-parts (x ∷ xs) = refl

head-beside : {X : Type 0} (x : List X) (xs ys : List (List X)) → head_level (side_by_side (x ∷ xs) ys) ≡ x ++ head_level ys
head-beside x xs [] = sym (append-nil x)
head-beside x xs (y ∷ ys) = refl

head-levels : {A : Type 0} (f : Forest A) → head_level (levels f) ≡ roots f
head-levels no_trees = refl
head-levels (tree_and v k r) = head-beside (record { value = v; kids = k } ∷ []) (levels k) (levels r) ∙ ap (λ x. record { value = v; kids = k } ∷ x) (head-levels r)

-- the roots come first
pub order-roots : {A : Type 0} (f : Forest A) → level_order f ≡ roots f ++ below (levels f)
order-roots f = in_line-parts (levels f) ∙ ap (λ x. x ++ below (levels f)) (head-levels f)

get-front : {X : Type 0} (xs ys : List X) (i : ℕ) (x : X) → slice_get xs i ≡ Some x → slice_get (xs ++ ys) i ≡ Some x
get-front [] ys i x h = cc
get-front (y ∷ xs) ys zero x h = h
get-front (y ∷ xs) ys (suc i) x h = get-front xs ys i x h

pub get-after : {X : Type 0} (xs ys : List X) (n i : ℕ) → n ≡ length xs + i → slice_get (xs ++ ys) n ≡ slice_get ys i
get-after [] ys n i e = let m : n ≡ i = omega (arith, e) in rw m refl
get-after (y ∷ xs) ys zero i e = absurd (omega (arith, e))
get-after (y ∷ xs) ys (suc n) i e = get-after xs ys n i (omega (arith, e))

pub first_kid-after : (j b : ℕ) → j ≤ b → suc j ≤ first_kid j b
first_kid-after j b h = elim (cases_lt j b) [
  | inl l ↦ let t : nat_eq b j ≡ false = eq-false b j l in rw t l
  | inr l ↦ let e : b ≡ j = omega arith in let t : nat_eq b j ≡ true = eq-eqb b j e in rw t (omega arith)
]

told-ahead : {A : Type 0} (j b : ℕ) (ns : List (Node A)) (bs : List ℕ) → j ≤ b → IsTold (suc j) ns bs → (i : ℕ) → i < suc (length ns) → j + i ≤ slice_index (b ∷ bs) i
told-ahead j b ns bs l h zero m = omega arith
told-ahead j b ns bs l h (suc i) m = let x = h.ahead i (omega arith) in omega (arith, x)

told-ends : {A : Type 0} (j b : ℕ) (x : Node A) (ns : List (Node A)) (bs : List ℕ) → slice_index bs 0 ≡ first_kid j b + width x.kids → IsTold (suc j) ns bs
    → (i : ℕ) (y : Node A) → slice_get (x ∷ ns) i ≡ Some y → slice_index (b ∷ bs) (suc i) ≡ first_kid (j + i) (slice_index (b ∷ bs) i) + width y.kids
told-ends j b x ns bs e h zero y g =
    let z : j + 0 ≡ j = omega arith in
    let s : x ≡ y = cc in
    rw (z, ← s) e
told-ends j b x ns bs e h (suc i) y g =
    let m : j + suc i ≡ suc j + i = omega arith in
    rw m (h.ends i y g)

told-kid : {A : Type 0} (j b : ℕ) (x : Node A) (ns : List (Node A)) (bs : List ℕ) → j ≤ b
    → ((c p : ℕ) (y : Node A) → slice_get (roots x.kids) c ≡ Some y → j + suc p ≡ first_kid j b + c → (slice_get ns p ≡ Some y) × (suc j + p < slice_index bs p))
    → IsTold (suc j) ns bs
    → (i c p : ℕ) (w y : Node A) → slice_get (x ∷ ns) i ≡ Some w → slice_get (roots w.kids) c ≡ Some y → j + p ≡ first_kid (j + i) (slice_index (b ∷ bs) i) + c → (slice_get (x ∷ ns) p ≡ Some y) × (j + p < slice_index (b ∷ bs) p)
told-kid j b x ns bs l k h zero c zero w y g r e =
    let z : j + 0 ≡ j = omega arith in
    let a = first_kid-after j b l in
    let e1 : j ≡ first_kid j b + c = rw z at e in
    absurd (omega (arith, a, e1))
told-kid j b x ns bs l k h zero c (suc p) w y g r e =
    let z : j + 0 ≡ j = omega arith in
    let s : w ≡ x = cc in
    let e1 : j + suc p ≡ first_kid j b + c = rw z at e in
    let a = k c p y (rw s at r) e1 in
    (a.0, let b = a.1 in omega (arith, b))
told-kid j b x ns bs l k h (suc i) c zero w y g r e =
    let a = first_kid-after (j + suc i) (slice_index bs i) (told-ahead j b ns bs l h (suc i) (let n = slice_get_within ns i w g in omega (arith, n))) in
    absurd (omega (arith, a, e))
told-kid j b x ns bs l k h (suc i) c (suc p) w y g r e =
    let m : j + suc i ≡ suc j + i = omega arith in
    let e1 : suc j + p ≡ first_kid (suc j + i) (slice_index bs i) + c = (let n : suc j + p ≡ j + suc p = omega arith in n ∙ (rw m at e)) in
    let a = h.kid i c p w y g r e1 in
    (a.0, let b = a.1 in omega (arith, b))

told-step : {A : Type 0} (j b : ℕ) (x : Node A) (ns : List (Node A)) (bs : List ℕ) → j ≤ b
    → slice_index bs 0 ≡ first_kid j b + width x.kids
    → ((c p : ℕ) (y : Node A) → slice_get (roots x.kids) c ≡ Some y → j + suc p ≡ first_kid j b + c → (slice_get ns p ≡ Some y) × (suc j + p < slice_index bs p))
    → IsTold (suc j) ns bs → IsTold j (x ∷ ns) (b ∷ bs)
told-step {A = A} j b x ns bs l e k h =
    record { ahead = told-ahead j b ns bs l h; ends = told-ends j b x ns bs e h; kid = told-kid j b x ns bs l k h }

-- pending nodes have bounds beyond their index
pending-beyond : {A : Type 0} (i j : ℕ) (q ts : Forest A) → i < width q → j + i < slice_index ((j + width q) ∷ walk_ends j q ts) i
pending-beyond i j no_trees ts h = absurd (omega (arith, h))
pending-beyond zero j (tree_and v k r) ts h = omega arith
pending-beyond (suc i) j (tree_and v k r) ts h =
    let w = width-joined r k in
    let x = pending-beyond i (suc j) (joined_forest r k) ts (omega (arith, h, w)) in
    let y : suc j + i < slice_index (walk_ends j (tree_and v k r) ts) i = rw (ends-next j v k r ts) x in
    omega (arith, y)

walk-pending : {A : Type 0} (q ts : Forest A) (i : ℕ) (y : Node A) → slice_get (roots q) i ≡ Some y → slice_get (walk_nodes q ts) i ≡ Some y
unfolding walk_nodes
walk-pending q ts i y h =
    let e : level_order q ++ nodes ts ≡ roots q ++ (below (levels q) ++ nodes ts) = ap (λ x. x ++ nodes ts) (order-roots q) ∙ append_assoc (roots q) (below (levels q)) (nodes ts) in
    rw e (get-front (roots q) (below (levels q) ++ nodes ts) i y h)

told-done : {A : Type 0} (j : ℕ) → IsTold j (walk_nodes {A = A} no_trees no_trees) ((j + width {A = A} no_trees) ∷ walk_ends {A = A} j no_trees no_trees)
told-done {A = A} j = rw (nodes-done A, ends-done A j) (record {
  ahead = λ i h. absurd (omega (arith, h));
  ends = λ i x h. cc;
  kid = λ i c p x y h. cc;
})

told-root : {A : Type 0} (j : ℕ) (v : A) (k r : Forest A) → IsTold (suc j) (walk_nodes k r) ((suc j + width k) ∷ walk_ends (suc j) k r) → IsTold j (walk_nodes no_trees (tree_and v k r)) ((j + width {A = A} no_trees) ∷ walk_ends j no_trees (tree_and v k r))
told-root {A = A} j v k r h =
    let z : j + 0 ≡ j = omega arith in
    let t : nat_eq j j ≡ true = eq-eqb j j refl in
    rw (nodes-root v k r, ends-root j v k r, z) (told-step j j (record { value = v; kids = k }) (walk_nodes k r) ((suc j + width k) ∷ walk_ends (suc j) k r) (omega arith) (rw t refl)
    (λ c p y g e. let e1 : j + suc p ≡ suc j + c = rw t at e in let s : p ≡ c = omega (arith, e1) in
    (rw s (walk-pending k r c y g), let n = slice_get_within (roots k) c y g in let o = length-roots k in pending-beyond p (suc j) k r (omega (arith, n, o, s))))
    h)

told-next : {A : Type 0} (j : ℕ) (v : A) (k r ts : Forest A) → IsTold (suc j) (walk_nodes (joined_forest r k) ts) ((suc j + width (joined_forest r k)) ∷ walk_ends (suc j) (joined_forest r k) ts) → IsTold j (walk_nodes (tree_and v k r) ts) ((j + suc (width r)) ∷ walk_ends j (tree_and v k r) ts)
told-next {A = A} j v k r ts h =
    let w = width-joined r k in
    let t : nat_eq (j + suc (width r)) j ≡ false = eq-false (j + suc (width r)) j (omega arith) in
    rw (nodes-next v k r ts, ends-next j v k r ts) (told-step j (j + suc (width r)) (record { value = v; kids = k }) (walk_nodes (joined_forest r k) ts) ((suc j + width (joined_forest r k)) ∷ walk_ends (suc j) (joined_forest r k) ts) (omega arith)
    (rw t (omega (arith, w)))
    (λ c p y g e. let e1 : j + suc p ≡ (j + suc (width r)) + c = rw t at e in
    let o = length-roots r in
    let s : p ≡ length (roots r) + c = omega (arith, e1, o) in
    let n = slice_get_within (roots k) c y g in
    let u = length-roots k in
    let a : slice_get (roots r ++ roots k) p ≡ Some y = get-after (roots r) (roots k) p c s ∙ g in
    (walk-pending (joined_forest r k) ts p y (rw (roots-joined r k) a), pending-beyond p (suc j) (joined_forest r k) ts (omega (arith, n, o, s, u, w))))
    h)

pub told_all : {A : Type 0} (j : ℕ) (q ts : Forest A) → IsTold j (walk_nodes q ts) ((j + width q) ∷ walk_ends j q ts)
told_all {A = A} j q ts = walk_all (λ j q ts. IsTold {A = A} j (walk_nodes q ts) ((j + width q) ∷ walk_ends j q ts)) told-done told-root told-next j q ts
