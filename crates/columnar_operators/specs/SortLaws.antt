-- What follows of rows that are sorted by their numbers.
use Rattle.std.proofs.Common.{◌≡◌, ℕ, zero, suc, ◌+◌, ◌<◌, ◌≤◌, Bool, true, false, List, [], ◌∷◌, ◌++◌, length, map, refl, sym, ◌∙◌, ap, subst, arith}
use Rattle.std.specs.Prelude.{slice_index_or, slice_get, Some, All, IsSorted, IsSortedByKey, IsPermutation, cond, not, ◌&&◌, None}
use Rattle.std.specs.List.{range_with_len, filter}
use Rattle.std.specs.List.Sorted.{IsSortedBy, IsStableBy, IsStableByKey, ties}
use Rattle.std.specs.Ordering.{is_lt}
use Rattle.std.specs.Option.{option_cmp}
use Rattle.std.specs.Cmp.{IsStrictWeakOrder}
use Rattle.std.specs.Cmp.Lexicographic.{options_total}
use Rattle.std.proofs.lemmas.List.{length-map, map-append}
use Rattle.std.proofs.lemmas.List.Elements.{All-append, All-cons, All-nil}
use Rattle.std.proofs.lemmas.Option.{slice_get_past}
use Rattle.std.proofs.lemmas.List.Sorted.{ranks_by, All-permutation}
use Rattle.std.proofs.lemmas.Bool.{cases_lt}
use Rattle.std.proofs.Common.{⊎_elim}
use Rattle.columnar_base.specs.Row.{Row}
use Rattle.columnar_rows.specs.RowOrder.{row_cmp}
use Rattle.columnar_rows.specs.RowOrderLaws.{row_cmp_total}
use Rattle.columnar_operators.specs.Picks.{row_at, rows_at}
use Rattle.columnar_operators.specs.PickLaws.{get_row_at}
use Rattle.columnar_operators.specs.Numbered.{IsNumbered}

-- is the first row that is named less than the second
abbrev pub names_less : List Row → ℕ → ℕ → Bool
names_less rows i j = is_lt (option_cmp row_cmp (slice_get rows i) (slice_get rows j))

pub names_order : (rows : List Row) → IsStrictWeakOrder (names_less rows)
names_order rows = ranks_by (options_total row_cmp_total) (slice_get rows)

-- the numbers from 0 on
numbers_below : (a n k d : ℕ) → k < length (range_with_len a n) → slice_index_or (range_with_len a n) k d < a + n
numbers_below a zero k d l = absurd (omega arith)
numbers_below a (suc n) zero d l = omega arith
numbers_below a (suc n) (suc k) d l = let h = numbers_below (a + 1) n k d (omega arith) in omega arith

pub all_below : (n : ℕ) → All (λ i. i < n) (range_with_len 0 n)
all_below n k d l = omega (arith, numbers_below 0 n k d l)

map_at : {A B : Type 0} (f : A → B) (xs : List A) (k : ℕ) (d : B) (e : A) → k < length xs → slice_index_or (map f xs) k d ≡ f (slice_index_or xs k e)
map_at f [] k d e l = absurd (omega arith)
map_at f (x ∷ xs) zero d e l = refl
map_at f (x ∷ xs) (suc k) d e l = map_at f xs k d e (omega arith)

-- numbers in the order of the rows that they name, name rows in order
pub rows_at_sorted : (rows : List Row) (numbers : List ℕ) → All (λ i. i < length rows) numbers → IsSortedByKey (slice_get rows) (option_cmp row_cmp) numbers → IsSorted row_cmp (rows_at rows numbers)
rows_at_sorted rows numbers all up k d a b =
    let l : k + 1 < length numbers = omega (arith, length-map numbers (row_at rows)) in
    let m : k < length numbers = omega arith in
    let one = get_row_at rows (slice_index_or numbers (k + 1) 0) (all (k + 1) 0 l) in
    let other = get_row_at rows (slice_index_or numbers k 0) (all k 0 m) in
    rw (map_at (row_at rows) numbers (k + 1) d 0 l, map_at (row_at rows) numbers k d 0 m) (rw (one, other) at (up k 0 a l))

-- number k from a on
numbers_at : (a n k j d : ℕ) → k < n → a + k ≡ j → slice_index_or (range_with_len a n) k d ≡ j
numbers_at a zero k j d l h = absurd (omega arith)
numbers_at a (suc n) zero j d l h = omega arith
numbers_at a (suc n) (suc k) j d l h = numbers_at (a + 1) n k j d (omega arith) (omega arith)

numbers_length : (a n : ℕ) → length (range_with_len a n) ≡ n
numbers_length a zero = refl
numbers_length a (suc n) = ap suc (numbers_length (a + 1) n)

numbers_more : (a n j : ℕ) → a + n ≡ j → range_with_len a (n + 1) ≡ range_with_len a n ++ j ∷ []
numbers_more a zero j h =
    let z : a ≡ j = omega arith in
    ap (λ m. m ∷ []) z
numbers_more a (suc n) j h =
    let w : suc n + 1 ≡ suc (n + 1) = omega arith in
    rw w (ap (λ l. a ∷ l) (numbers_more (a + 1) n j (omega arith)))

-- an element, of a list that has some
some_of : {X : Type 0} (xs : List X) (k : ℕ) → k < length xs → X
some_of [] k l = absurd (omega arith)
some_of (x ∷ xs) k l = x

filter_none : {X : Type 0} (xs : List X) → filter (λ _. false) xs ≡ []
filter_none [] = refl
filter_none (x ∷ xs) = filter_none xs

-- rows beside their numbers, in any order
module _ {A : Type 0} (meaning : A → Row) (rows : List Row) where
  abbrev Named : A × ℕ → Type 0
  Named p = slice_get rows p.1 ≡ Some (meaning p.0)

  -- the next row beside its number
  pub pairs_more : (pairs new : List (A × ℕ)) (i : ℕ) (x : A) → new ≡ pairs ++ (x, i) ∷ [] → slice_get rows i ≡ Some (meaning x) → map (λ p. p.1) pairs ≡ range_with_len 0 i → All Named pairs → (map (λ p. p.1) new ≡ range_with_len 0 (i + 1)) × All Named new
  pairs_more pairs new i x e h numbers all = (
    ap (map (λ p. p.1)) e ∙ map-append (λ (p : A × ℕ). p.1) pairs ((x, i) ∷ []) ∙ ap (λ l. l ++ i ∷ []) numbers ∙ sym (numbers_more 0 i i (omega arith)),
    rw e (All-append Named pairs ((x, i) ∷ []) all (All-cons Named (x, i) [] h (All-nil Named))),
  )

  -- is the first row less than the second
  abbrev pub pair_less : A × ℕ → A × ℕ → Bool
  pair_less p q = is_lt (row_cmp (meaning p.0) (meaning q.0))

  pub pair_order : IsStrictWeakOrder pair_less
  pair_order = ranks_by row_cmp_total (λ (p : A × ℕ). meaning p.0)

  named_less : (p q : A × ℕ) → Named p → Named q → names_less rows p.1 q.1 ≡ pair_less p q
  named_less p q h k = rw (h, k) refl

  pub pairs_sorted : (pairs : List (A × ℕ)) → All Named pairs → IsSortedBy pair_less pairs → IsSortedByKey (slice_get rows) (option_cmp row_cmp) (map (λ p. p.1) pairs)
  pairs_sorted pairs all up k d a b =
      let l : k + 1 < length pairs = omega (arith, length-map pairs (λ (p : A × ℕ). p.1)) in
      let m : k < length pairs = omega arith in
      let e = some_of pairs k m in
      rw (map_at (λ (p : A × ℕ). p.1) pairs (k + 1) d e l, map_at (λ (p : A × ℕ). p.1) pairs k d e m) (named_less _ _ (all (k + 1) e l) (all k e m) ∙ up k e a l)

  -- a test of the numbers, as a test of the pairs
  same_step : (b : Bool) (p : A × ℕ) (left : List ℕ) (pairs : List (A × ℕ)) → left ≡ map (λ q. q.1) pairs → cond b (p.1 ∷ left) left ≡ map (λ q. q.1) (cond b (p ∷ pairs) pairs)
  same_step true p left pairs h = ap (λ l. p.1 ∷ l) h
  same_step false p left pairs h = h

  filter_same : (f : ℕ → Bool) (g : A × ℕ → Bool) (pairs : List (A × ℕ)) → All (λ p. f p.1 ≡ g p) pairs → filter f (map (λ p. p.1) pairs) ≡ map (λ p. p.1) (filter g pairs)
  filter_same f g [] all = refl
  filter_same f g (p ∷ pairs) all =
      let h : f p.1 ≡ g p = all 0 p (omega arith) in
      rw h (same_step (g p) p _ _ (filter_same f g pairs (λ k d l. all (suc k) d (omega arith))))

  ties_same : (p q : A × ℕ) → Named p → Named q → ties (names_less rows) p.1 q.1 ≡ ties pair_less p q
  ties_same p q h k = rw (named_less p q h k, named_less q p k h) refl

  past : (x : ℕ) → length rows ≤ x → slice_get rows x ≡ None
  past x l = slice_get_past rows x l

  ties_none : (x : ℕ) (q : A × ℕ) → length rows ≤ x → Named q → ties (names_less rows) x q.1 ≡ false
  ties_none x q l k = rw (past x l, k) refl

  pub pairs_stable : (before after : List (A × ℕ)) → IsNumbered meaning rows before → All Named after → IsStableBy pair_less before after → IsStableByKey (slice_get rows) (option_cmp row_cmp) (range_with_len 0 (length rows)) (map (λ p. p.1) after)
  pairs_stable before after n all stable x = ⊎_elim
      (λ (o : x < length rows).
      let m : x < length before = omega (arith, ap length n.numbers, numbers_length 0 (length rows), length-map before (λ (p : A × ℕ). p.1)) in
      let e = some_of before x m in
      let p = slice_index_or before x e in
      let is : p.1 ≡ x = sym (map_at (λ (q : A × ℕ). q.1) before x 0 e m) ∙ ap (λ l. slice_index_or l x 0) n.numbers ∙ numbers_at 0 (length rows) x x 0 o (omega arith) in
      let h : Named p = n.named x e m in
      let t = λ (pairs : List (A × ℕ)) (every : All Named pairs). filter_same (ties (names_less rows) p.1) (ties pair_less p) pairs (λ k d l. ties_same p _ h (every k d l)) in
      subst (λ y. filter (ties (names_less rows) y) (map (λ p. p.1) after) ≡ filter (ties (names_less rows) y) (range_with_len 0 (length rows))) is (t after all ∙ ap (map (λ q. q.1)) (stable p) ∙ sym (t before n.named) ∙ ap (filter (ties (names_less rows) p.1)) n.numbers))
      (λ (o : length rows ≤ x).
      let t = λ (pairs : List (A × ℕ)) (every : All Named pairs). filter_same (ties (names_less rows) x) (λ _. false) pairs (λ k d l. ties_none x _ o (every k d l)) ∙ ap (map (λ q. q.1)) (filter_none pairs) in
      t after all ∙ sym (t before n.named) ∙ ap (filter (ties (names_less rows) x)) n.numbers)
      (cases_lt x (length rows))
