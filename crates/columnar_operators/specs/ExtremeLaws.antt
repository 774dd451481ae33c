-- What follows of the least and the greatest of the rows so far.
use Rattle.std.proofs.Common.{◌≡◌, ℕ, ◌+◌, ◌<◌, ◌≤◌, Bool, true, false, List, length, refl, sym, ◌∙◌, ap, arith, ⊎_elim}
use Rattle.std.specs.Prelude.{slice_get, slice_index_or, Some}
use Rattle.std.specs.List.{AllWithin, Contains}
use Rattle.std.specs.declared.cmp.Ordering.{Ordering}
use Rattle.std.specs.declared.cmp.Ordering.TheVariants.{Less, Equal, Greater}
use Rattle.std.specs.Ordering.{is_lt, is_gt, ordering_reverse}
use Rattle.std.specs.Cmp.{upto, tied_itself}
use Rattle.std.proofs.lemmas.Bool.{cases_lt}
use Rattle.std.proofs.lemmas.Option.{get_or_from_slice_get, slice_get_within}
use Rattle.columnar_base.specs.Row.{Row}
use Rattle.columnar_rows.specs.RowOrder.{row_cmp}
use Rattle.columnar_rows.specs.RowOrderLaws.{row_cmp_total}

-- a row that was read is one of them
pub row_among : (rows : List Row) (i : ℕ) (x : Row) → slice_get rows i ≡ Some x → Contains rows x
row_among rows i x h = (i, slice_get_within rows i x h, get_or_from_slice_get rows i x x h)

one_more : (P : Row → Type 0) (rows : List Row) (i : ℕ) (x : Row) → slice_get rows i ≡ Some x → P x → AllWithin P rows 0 i → AllWithin P rows 0 (i + 1)
one_more P rows i x h p all k d a b = ⊎_elim
    (λ (o : k < i). all k d a o)
    (λ (o : i ≤ k).
    let e : k ≡ i = omega arith in
    let r : slice_index_or rows k d ≡ x = ap (λ n. slice_index_or rows n d) e ∙ get_or_from_slice_get rows i x d h in
    rw r p)
    (cases_lt k i)

lt_reverse : (o : Ordering) → is_lt (ordering_reverse o) ≡ is_gt o
lt_reverse Less = refl
lt_reverse Equal = refl
lt_reverse Greater = refl

-- one is less than the other where the other is greater
turned : (r s : Row) → is_lt (row_cmp r s) ≡ is_gt (row_cmp s r)
turned r s = ap is_lt (row_cmp_total.antisymm r s) ∙ lt_reverse (row_cmp s r)

less_not_greater : (o : Ordering) → is_lt o ≡ true → is_gt o ≡ false
less_not_greater Less h = refl
less_not_greater Equal h = cc
less_not_greater Greater h = cc

not_below_itself : (r : Row) → is_lt (row_cmp r r) ≡ false
not_below_itself r = ap is_lt (tied_itself row_cmp_total r)

not_above_itself : (r : Row) → is_gt (row_cmp r r) ≡ false
not_above_itself r = ap is_gt (tied_itself row_cmp_total r)

-- the first row
pub least_first : (rows : List Row) (x : Row) → slice_get rows 0 ≡ Some x → AllWithin (λ r. is_lt (row_cmp r x) ≡ false) rows 0 1
least_first rows x h = one_more (λ r. is_lt (row_cmp r x) ≡ false) rows 0 x h (not_below_itself x) (λ k d a b. absurd (omega arith))

pub greatest_first : (rows : List Row) (x : Row) → slice_get rows 0 ≡ Some x → AllWithin (λ r. is_gt (row_cmp r x) ≡ false) rows 0 1
greatest_first rows x h = one_more (λ r. is_gt (row_cmp r x) ≡ false) rows 0 x h (not_above_itself x) (λ k d a b. absurd (omega arith))

-- the next row is less, and so it is the least
pub least_taken : (rows : List Row) (i : ℕ) (x m : Row) → slice_get rows i ≡ Some x → is_lt (row_cmp x m) ≡ true → AllWithin (λ r. is_lt (row_cmp r m) ≡ false) rows 0 i → AllWithin (λ r. is_lt (row_cmp r x) ≡ false) rows 0 (i + 1)
least_taken rows i x m h t all = one_more (λ r. is_lt (row_cmp r x) ≡ false) rows i x h (not_below_itself x) (λ k d a b.
    turned _ x ∙ upto row_cmp_total x m _ (less_not_greater _ t) (sym (turned _ m) ∙ all k d a b))

-- the next row is not
pub least_kept : (rows : List Row) (i : ℕ) (x m : Row) → slice_get rows i ≡ Some x → is_lt (row_cmp x m) ≡ false → AllWithin (λ r. is_lt (row_cmp r m) ≡ false) rows 0 i → AllWithin (λ r. is_lt (row_cmp r m) ≡ false) rows 0 (i + 1)
least_kept rows i x m h f all = one_more (λ r. is_lt (row_cmp r m) ≡ false) rows i x h f all

-- the next row is not less, and so it is the greatest
pub greatest_taken : (rows : List Row) (i : ℕ) (x m : Row) → slice_get rows i ≡ Some x → is_lt (row_cmp x m) ≡ false → AllWithin (λ r. is_gt (row_cmp r m) ≡ false) rows 0 i → AllWithin (λ r. is_gt (row_cmp r x) ≡ false) rows 0 (i + 1)
greatest_taken rows i x m h f all = one_more (λ r. is_gt (row_cmp r x) ≡ false) rows i x h (not_above_itself x) (λ k d a b.
    upto row_cmp_total _ m x (all k d a b) (sym (turned x m) ∙ f))

-- the next row is less
pub greatest_kept : (rows : List Row) (i : ℕ) (x m : Row) → slice_get rows i ≡ Some x → is_lt (row_cmp x m) ≡ true → AllWithin (λ r. is_gt (row_cmp r m) ≡ false) rows 0 i → AllWithin (λ r. is_gt (row_cmp r m) ≡ false) rows 0 (i + 1)
greatest_kept rows i x m h t all = one_more (λ r. is_gt (row_cmp r m) ≡ false) rows i x h (less_not_greater _ t) all
