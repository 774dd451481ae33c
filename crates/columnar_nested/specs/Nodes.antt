-- Reading a node of a layout by numbers.
use Rattle.std.proofs.Common.{◌≡◌, ℕ, suc, ◌+◌, ◌-◌, ◌<◌, ◌≤◌, cond, List, [], ◌∷◌, length}
use Rattle.std.specs.Prelude.{nat_eq, slice_index, slice_get, Some}
use Rattle.columnar_nested.specs.Forest.{Node, width, roots, in_line}
use Rattle.columnar_nested.specs.Layout.{nodes}

-- the number of the first child of node j, whose bound is b; a root does not count as a child
abbrev pub first_kid : ℕ → ℕ → ℕ
first_kid j b = cond (nat_eq b j) (suc b) b

-- all nodes except the roots, in order
abbrev pub below : {X : Type 0} → List (List X) → List X
below [] = []
below (x ∷ xs) = in_line xs

abbrev pub head_level : {X : Type 0} → List (List X) → List X
head_level [] = []
head_level (x ∷ xs) = x

-- nodes ns, numbered from j on, and their bounds bs, one more than nodes
pub record IsTold {A : Type 0} (j : ℕ) (ns : List (Node A)) (bs : List ℕ) : Type 0 where
  pub ahead : (i : ℕ) → i < length ns → j + i ≤ slice_index bs i
  pub ends : (i : ℕ) (x : Node A) → slice_get ns i ≡ Some x → slice_index bs (suc i) ≡ first_kid (j + i) (slice_index bs i) + width x.kids
  pub kid : (i c p : ℕ) (x y : Node A) → slice_get ns i ≡ Some x → slice_get (roots x.kids) c ≡ Some y → j + p ≡ first_kid (j + i) (slice_index bs i) + c → (slice_get ns p ≡ Some y) × (j + p < slice_index bs p)
