-- What a search of a column has found.
use Rattle.std.proofs.Common.{◌≡◌, ℕ, zero, suc, ◌+◌, ◌-◌, ◌<◌, ◌≤◌, Bool, true, false, List, [], ◌∷◌, length, refl, sym, ◌∙◌, ap, subst, arith}
use Rattle.std.proofs.Common.{⊎_elim}
use Rattle.std.specs.Fn.{AlwaysReturns, Called, Mut}
use Rattle.std.specs.Prelude.{slice_index_or, slice_get, Some, not, IsTrue, ◌↔◌}
use Rattle.std.specs.declared.cmp.Ordering.{Ordering}
use Rattle.std.specs.declared.cmp.Ordering.TheVariants.{Less, Equal, Greater}
use Rattle.std.specs.Ordering.{is_lt, is_gt, ordering_index}
use Rattle.std.proofs.lemmas.List.Sorted.{searchable_from_sorted}
use Rattle.columnar_base.specs.Row.{Row}
use Rattle.columnar_rows.specs.RowOrder.{row_cmp}
use Rattle.columnar_rows.specs.RowOrderLaws.{row_cmp_total}
use Rattle.std.specs.List.{AllWithin}
use Rattle.std.specs.List.Sorted.{IsPartitionedBy, IsPartitionPoint, IsSorted, IsSortedWithin}
use Rattle.std.proofs.lemmas.Bool.{true≢false, cases_lt}
use Rattle.std.proofs.lemmas.Option.{get_or_from_slice_get}

-- all rows before `start` pass, and none from `end` on
pub record Narrowed {X : Type 0} (p : X → Bool) (xs : List X) (start «end» : ℕ) : Type 0 where
  pub pass : AllWithin (λ x. p x ≡ true) xs 0 start
  pub fail : AllWithin (λ x. p x ≡ false) xs «end» (length xs)

not_true : (b : Bool) → (b ≡ true → ⊥) → b ≡ false
not_true true h = absurd (h refl)
not_true false h = refl

module _ {X : Type 0} (p : X → Bool) (xs : List X) where
  pub narrowed_none : Narrowed p xs 0 (length xs)
  narrowed_none = record { pass = λ k d a b. absurd (omega arith); fail = λ k d a b. absurd (omega arith) }

  pub narrowed_up : (start «end» middle : ℕ) (x : X) → middle < length xs → slice_get xs middle ≡ Some x → p x ≡ true → IsPartitionedBy p xs → Narrowed p xs start «end» → Narrowed p xs (middle + 1) «end»
  narrowed_up start «end» middle x l h t first n = record {
    pass = λ k d a b. first k middle d (omega arith) l (ap p (get_or_from_slice_get xs middle x d h) ∙ t);
    fail = n.fail;
  }

  pub narrowed_down : (start «end» middle : ℕ) (x : X) → middle < length xs → slice_get xs middle ≡ Some x → p x ≡ false → IsPartitionedBy p xs → Narrowed p xs start «end» → Narrowed p xs start middle
  narrowed_down start «end» middle x l h f first n = record {
    pass = n.pass;
    fail = λ k d a b. not_true _ (λ t. true≢false (sym (first middle k d a b t) ∙ ap p (get_or_from_slice_get xs middle x d h) ∙ f));
  }

  pub narrowed_all : (start «end» : ℕ) → start ≤ «end» → «end» ≤ start → Narrowed p xs start «end» → IsPartitionPoint (λ x. p x ≡ true) (λ x. p x ≡ false) xs start
  narrowed_all start «end» a b n = (n.pass, λ k d c e. n.fail k d (omega arith) e)

-- a column in order, up to a row
module _ {X : Type 0} (lt : X → X → Bool) (xs : List X) where
  pub sorted_none : IsSortedWithin lt xs 0 1
  sorted_none k d a b = absurd (omega arith)

  read : (i : ℕ) (x d : X) → slice_get xs i ≡ Some x → slice_index_or xs i d ≡ x
  read i x d h = get_or_from_slice_get xs i x d h

  pub sorted_more : (i : ℕ) (x y : X) → 1 ≤ i → i < length xs → slice_get xs i ≡ Some x → slice_get xs (i - 1) ≡ Some y → lt x y ≡ false → IsSortedWithin lt xs 0 i → IsSortedWithin lt xs 0 (i + 1)
  sorted_more i x y a b p q f s k d c e = ⊎_elim
      (λ (o : k + 1 < i). s k d c o)
      (λ (o : i ≤ k + 1).
      let u : k + 1 ≡ i = omega arith in
      let v : k ≡ i - 1 = omega arith in
      let one : slice_index_or xs (k + 1) d ≡ x = ap (λ n. slice_index_or xs n d) u ∙ read i x d p in
      let other : slice_index_or xs k d ≡ y = ap (λ n. slice_index_or xs n d) v ∙ read (i - 1) y d q in
      rw (one, other) f)
      (cases_lt (k + 1) i)

  pub sorted_broken : (i : ℕ) (x y : X) → 1 ≤ i → i < length xs → slice_get xs i ≡ Some x → slice_get xs (i - 1) ≡ Some y → lt x y ≡ true → (IsTrue false ↔ IsSortedWithin lt xs 0 (length xs))
  sorted_broken i x y a b p q t = (
    λ e. absurd (true≢false (sym e)),
    λ s.
        let u : i - 1 + 1 ≡ i = omega arith in
        let one : slice_index_or xs (i - 1 + 1) x ≡ x = ap (λ n. slice_index_or xs n x) u ∙ read i x x p in
        let other : slice_index_or xs (i - 1) x ≡ y = read (i - 1) y x q in
        absurd (true≢false (sym t ∙ (rw (one, other) at (s (i - 1) x (omega arith) (omega arith))))),
  )

  pub sorted_all : (i : ℕ) → length xs ≤ i → IsSortedWithin lt xs 0 i → (IsTrue true ↔ IsSortedWithin lt xs 0 (length xs))
  sorted_all i l s = (λ e k d a b. s k d a (omega arith), λ _. refl)

-- what is below a key comes first in a column that is in order, and so does what is not above it
below_index : (o p : Ordering) → ordering_index o ≤ ordering_index p → is_lt p ≡ true → is_lt o ≡ true
below_index Less p l h = refl
below_index Equal Less l h = absurd (omega arith)
below_index Equal Equal l h = cc
below_index Equal Greater l h = cc
below_index Greater Less l h = absurd (omega arith)
below_index Greater Equal l h = cc
below_index Greater Greater l h = cc

upto_index : (o p : Ordering) → ordering_index o ≤ ordering_index p → not (is_gt p) ≡ true → not (is_gt o) ≡ true
upto_index Less p l h = refl
upto_index Equal p l h = refl
upto_index Greater Less l h = absurd (omega arith)
upto_index Greater Equal l h = absurd (omega arith)
upto_index Greater Greater l h = cc

pub below_first : (rows : List Row) (key : Row) → IsSorted row_cmp rows → IsPartitionedBy (λ r. is_lt (row_cmp r key)) rows
below_first rows key up i j d a b t = below_index _ _ (searchable_from_sorted row_cmp_total (λ r. r) rows key up i j d a b) t

pub upto_first : (rows : List Row) (key : Row) → IsSorted row_cmp rows → IsPartitionedBy (λ r. not (is_gt (row_cmp r key))) rows
upto_first rows key up i j d a b t = upto_index _ _ (searchable_from_sorted row_cmp_total (λ r. r) rows key up i j d a b) t

not_is_true : (b : Bool) → not b ≡ true → b ≡ false
not_is_true true h = cc
not_is_true false h = refl

not_is_false : (b : Bool) → not b ≡ false → b ≡ true
not_is_false true h = refl
not_is_false false h = cc

pub partition_point_not : {X : Type 0} (q : X → Bool) (xs : List X) (n : ℕ) → IsPartitionPoint (λ x. not (q x) ≡ true) (λ x. not (q x) ≡ false) xs n → IsPartitionPoint (λ x. q x ≡ false) (λ x. q x ≡ true) xs n
partition_point_not q xs n p = (λ k d a b. not_is_true _ (p.0 k d a b), λ k d a b. not_is_false _ (p.1 k d a b))

-- what a call answers, and what further calls do
pub answers_next : {F X R : Type 0} (g : Mut F X R) (P : X → R → Type 0) (f : F) (a : X) (r : R) (f' : F) → Called g f a r f' → AlwaysReturns g P f → P a r × AlwaysReturns g P f'
answers_next g P f a r f' c h = ((h.at (a ∷ []) r f' c).0, record { at = λ xs. (h.at (a ∷ xs) r f' c).1 })
