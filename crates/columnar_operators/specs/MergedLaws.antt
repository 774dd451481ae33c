-- What follows of rows that are merged.
use Rattle.std.proofs.Common.{◌≡◌, ℕ, zero, suc, ◌+◌, ◌-◌, ◌<◌, ◌≤◌, Bool, true, false, cond, List, [], ◌∷◌, ◌++◌, length, take, drop, refl, sym, ◌∙◌, ap, subst, arith, append-nil, append_assoc}
use Rattle.std.specs.Prelude.{slice_get, Some, IsPermutation, IsSorted}
use Rattle.std.proofs.lemmas.List.Sorted.{IsPermutation-refl, IsPermutation-trans, IsPermutation-middle, IsPermutation-cons, ranks_by}
use Rattle.columnar_rows.specs.RowOrderLaws.{row_cmp_total}
use Rattle.std.proofs.Common.{⊎_elim}
use Rattle.std.proofs.lemmas.Bool.{cases_lt, true≢false}
use Rattle.std.specs.Ordering.{is_lt}
use Rattle.std.proofs.lemmas.List.{drop_all, length-drop, take_all}
use Rattle.std.proofs.lemmas.Option.{get_or_from_slice_get}
use Rattle.std.specs.declared.cmp.Ordering.{Ordering}
use Rattle.columnar_base.specs.Row.{Row, unit}
use Rattle.columnar_base.specs.RowsLeftLaws.{drop_next}
use Rattle.columnar_rows.specs.RowOrder.{row_cmp}
use Rattle.columnar_operators.specs.Picks.{row_at}
use Rattle.columnar_operators.specs.PickLaws.{get_row_at}
use Rattle.columnar_operators.specs.PartlyLaws.{run_more}
use Rattle.columnar_operators.specs.Merged.{merged}

-- with nothing to merge, the first list stands
pub merged_alone : (xs : List Row) → merged xs [] ≡ xs
merged_alone [] = refl
merged_alone (x ∷ xs) = refl

-- the next row is that of the first list
merged_first : (xs ys : List Row) (i j : ℕ) → i < length xs → j < length ys → is_lt (row_cmp (row_at ys j) (row_at xs i)) ≡ false → merged (drop i xs) (drop j ys) ≡ row_at xs i ∷ merged (drop (i + 1) xs) (drop j ys)
merged_first xs ys i j l m h =
    rw (drop_next xs i (row_at xs i) (get_row_at xs i l), drop_next ys j (row_at ys j) (get_row_at ys j m)) (ap (λ b. cond b (row_at ys j ∷ merged (row_at xs i ∷ drop (i + 1) xs) (drop (j + 1) ys)) (row_at xs i ∷ merged (drop (i + 1) xs) (row_at ys j ∷ drop (j + 1) ys))) h)

-- the next row is that of the second
merged_second : (xs ys : List Row) (i j : ℕ) → i < length xs → j < length ys → is_lt (row_cmp (row_at ys j) (row_at xs i)) ≡ true → merged (drop i xs) (drop j ys) ≡ row_at ys j ∷ merged (drop i xs) (drop (j + 1) ys)
merged_second xs ys i j l m h =
    rw (drop_next xs i (row_at xs i) (get_row_at xs i l), drop_next ys j (row_at ys j) (get_row_at ys j m)) (ap (λ b. cond b (row_at ys j ∷ merged (row_at xs i ∷ drop (i + 1) xs) (drop (j + 1) ys)) (row_at xs i ∷ merged (drop (i + 1) xs) (row_at ys j ∷ drop (j + 1) ys))) h)

-- a front of what is merged, from row `start` of `xs` on up to row `n`, and the rest
pub record MergedUpTo (xs : List Row) (start n : ℕ) (whole rest : List Row) : Type 0 where
  pub ordered : start ≤ n
  pub is : whole ≡ take (n - start) (drop start xs) ++ rest

pub up_to_none : (xs whole : List Row) (start : ℕ) → MergedUpTo xs start start whole whole
up_to_none xs whole start = record { ordered = omega arith; is = let z : start - start ≡ 0 = omega arith in rw z refl }

up_to_more : (xs : List Row) (start n : ℕ) (whole rest left : List Row) → n < length xs → rest ≡ row_at xs n ∷ left → MergedUpTo xs start n whole rest → MergedUpTo xs start (n + 1) whole left
up_to_more xs start n whole rest left l e m = record {
  ordered = omega (arith, m.ordered);
  is = m.is ∙ ap (λ t. take (n - start) (drop start xs) ++ t) e ∙ sym (append_assoc (take (n - start) (drop start xs)) (row_at xs n ∷ []) left) ∙ ap (λ t. t ++ left) (sym (run_more xs start n (row_at xs n) m.ordered (get_row_at xs n l)));
}

-- one more of the first list
pub first_more : (xs ys : List Row) (start i j : ℕ) (whole : List Row) → i < length xs → j < length ys → is_lt (row_cmp (row_at ys j) (row_at xs i)) ≡ false → MergedUpTo xs start i whole (merged (drop i xs) (drop j ys)) → MergedUpTo xs start (i + 1) whole (merged (drop (i + 1) xs) (drop j ys))
first_more xs ys start i j whole l m h u = up_to_more xs start i whole _ _ l (merged_first xs ys i j l m h) u

-- one more of the second
pub second_more : (xs ys : List Row) (start i j : ℕ) (whole : List Row) → i < length xs → j < length ys → is_lt (row_cmp (row_at ys j) (row_at xs i)) ≡ true → MergedUpTo ys start j whole (merged (drop i xs) (drop j ys)) → MergedUpTo ys start (j + 1) whole (merged (drop i xs) (drop (j + 1) ys))
second_more xs ys start i j whole l m h u = up_to_more ys start j whole _ _ m (merged_second xs ys i j l m h) u

-- all that is left of one list, where the other has ended
all_left : (xs : List Row) (i n : ℕ) → n ≡ length xs → take (n - i) (drop i xs) ≡ drop i xs
all_left xs i n e = take_all (n - i) (drop i xs) (omega (arith, length-drop i xs))

pub first_alone : (xs ys : List Row) (i j n : ℕ) → n ≡ length xs → j ≡ length ys → merged (drop i xs) (drop j ys) ≡ take (n - i) (drop i xs) ++ merged (drop n xs) (drop j ys)
first_alone xs ys i j n e f =
    let a = drop_all n xs (omega arith) in
    let b = drop_all j ys (omega arith) in
    rw (a, b, all_left xs i n e, append-nil (drop i xs)) (merged_alone (drop i xs))

pub second_alone : (xs ys : List Row) (i j n : ℕ) → n ≡ length ys → i ≡ length xs → merged (drop i xs) (drop j ys) ≡ take (n - j) (drop j ys) ++ merged (drop i xs) (drop n ys)
second_alone xs ys i j n e f =
    let a = drop_all n ys (omega arith) in
    let b = drop_all i xs (omega arith) in
    rw (a, b, all_left ys j n e, append-nil (drop j ys)) refl

-- each turn takes a row
pub merge_falls : (xs ys : List Row) (i j k l : ℕ) → i ≤ k → k ≤ length xs → j ≤ l → l ≤ length ys → i < length xs
    → (k < length xs → (j < length ys) × (is_lt (row_cmp (row_at ys j) (row_at xs k)) ≡ true))
    → (l < length ys → (k < length xs) × (is_lt (row_cmp (row_at ys l) (row_at xs k)) ≡ false))
    → (length xs - k) + (length ys - l) < (length xs - i) + (length ys - j)
merge_falls xs ys i j k l a b c d m p q = ⊎_elim
    (λ (o : i < k). omega arith)
    (λ (e : k ≤ i). ⊎_elim
    (λ (o : j < l). omega arith)
    (λ (f : l ≤ j).
    let s : k < length xs = omega arith in
    let t : l ≡ j = omega arith in
    let u : l < length ys = omega (arith, (p s).0) in
    absurd (true≢false (sym (p s).1 ∙ subst (λ n. is_lt (row_cmp (row_at ys n) (row_at xs k)) ≡ false) t (q u).1)))
    (cases_lt j l))
    (cases_lt i k)

-- how two rows that were read compare
pub compared : (xs ys : List Row) (i j : ℕ) (x y : Row) (o : Ordering) (b : Bool) → slice_get ys j ≡ Some y → slice_get xs i ≡ Some x → o ≡ row_cmp y x → is_lt o ≡ b → is_lt (row_cmp (row_at ys j) (row_at xs i)) ≡ b
compared xs ys i j x y o b p q e h =
    let s : row_at ys j ≡ y = get_or_from_slice_get ys j y unit p in
    let t : row_at xs i ≡ x = get_or_from_slice_get xs i x unit q in
    rw (s, t, ← e) h

-- the first list has ended
pub first_ended : (xs ys : List Row) (i j n : ℕ) → n ≡ length ys → length xs ≤ i → merged (drop i xs) (drop j ys) ≡ take (n - j) (drop j ys) ++ []
first_ended xs ys i j n e l = let b = drop_all i xs l in rw (b, all_left ys j n e, append-nil (drop j ys)) refl

-- What is merged of two columns has just their rows.
pub merged_permutation : (xs ys : List Row) → IsPermutation (xs ++ ys) (merged xs ys)
merged_permutation [] ys = IsPermutation-refl ys
merged_permutation (x ∷ xs) [] = rw (append-nil xs) (IsPermutation-refl (x ∷ xs))
merged_permutation (x ∷ xs) (y ∷ ys) = either (is_lt (row_cmp y x)) (merged_permutation (x ∷ xs) ys) (merged_permutation xs (y ∷ ys))
  where
    either : (b : Bool) → IsPermutation ((x ∷ xs) ++ ys) (merged (x ∷ xs) ys) → IsPermutation (xs ++ (y ∷ ys)) (merged xs (y ∷ ys)) → IsPermutation ((x ∷ xs) ++ (y ∷ ys)) (cond b (y ∷ merged (x ∷ xs) ys) (x ∷ merged xs (y ∷ ys)))
    either true p q = IsPermutation-trans _ _ _ (IsPermutation-middle (x ∷ xs) y ys) (IsPermutation-cons y _ _ p)
    either false p q = IsPermutation-cons x _ _ q

-- no row of the list is less than r, as far as its first tells
abbrev FirstNotLess : Row → List Row → Type 0
FirstNotLess r [] = Unit {0}
FirstNotLess r (x ∷ xs) = is_lt (row_cmp x r) ≡ false

sorted_head : (x : Row) (xs : List Row) → IsSorted row_cmp (x ∷ xs) → FirstNotLess x xs
sorted_head x [] s = tt
sorted_head x (y ∷ xs) s = s 0 x (omega arith) (omega arith)

sorted_tail : (x : Row) (xs : List Row) → IsSorted row_cmp (x ∷ xs) → IsSorted row_cmp xs
sorted_tail x xs s k d a b = let z : suc k + 1 ≡ suc (k + 1) = omega arith in rw z at (s (suc k) d (omega arith) (omega arith))

sorted_cons : (x : Row) (xs : List Row) → FirstNotLess x xs → IsSorted row_cmp xs → IsSorted row_cmp (x ∷ xs)
sorted_cons x [] h s k d a b = absurd (omega arith)
sorted_cons x (y ∷ xs) h s zero d a b = h
sorted_cons x (y ∷ xs) h s (suc k) d a b = let z : suc k + 1 ≡ suc (k + 1) = omega arith in rw z (s k d (omega arith) (omega arith))

not_less_back : (x y : Row) → is_lt (row_cmp y x) ≡ true → is_lt (row_cmp x y) ≡ false
not_less_back x y h = (ranks_by row_cmp_total (λ (r : Row). r)).one_way y x h

merged_first_not_less : (r : Row) (xs ys : List Row) → FirstNotLess r xs → FirstNotLess r ys → FirstNotLess r (merged xs ys)
merged_first_not_less r [] ys p q = q
merged_first_not_less r (x ∷ xs) [] p q = p
merged_first_not_less r (x ∷ xs) (y ∷ ys) p q = either (is_lt (row_cmp y x))
  where
    either : (b : Bool) → FirstNotLess r (cond b (y ∷ merged (x ∷ xs) ys) (x ∷ merged xs (y ∷ ys)))
    either true = q
    either false = p

-- Two columns that are in order are merged into one that is.
pub merged_sorted : (xs ys : List Row) → IsSorted row_cmp xs → IsSorted row_cmp ys → IsSorted row_cmp (merged xs ys)
merged_sorted [] ys p q = q
merged_sorted (x ∷ xs) [] p q = p
merged_sorted (x ∷ xs) (y ∷ ys) p q = either (is_lt (row_cmp y x)) refl (merged_sorted (x ∷ xs) ys p (sorted_tail y ys q)) (merged_sorted xs (y ∷ ys) (sorted_tail x xs p) q)
  where
    either : (b : Bool) → is_lt (row_cmp y x) ≡ b → IsSorted row_cmp (merged (x ∷ xs) ys) → IsSorted row_cmp (merged xs (y ∷ ys)) → IsSorted row_cmp (cond b (y ∷ merged (x ∷ xs) ys) (x ∷ merged xs (y ∷ ys)))
    either true h r s = sorted_cons y (merged (x ∷ xs) ys) (merged_first_not_less y (x ∷ xs) ys (not_less_back x y h) (sorted_head y ys q)) r
    either false h r s = sorted_cons x (merged xs (y ∷ ys)) (merged_first_not_less x xs (y ∷ ys) (sorted_head x xs p) h) s
