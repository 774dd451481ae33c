-- The order of rows is total and agrees with their equality.
use Rattle.std.proofs.Common.{◌≡◌, ℕ, zero, suc, ◌+◌, ◌<◌, ◌≤◌, Bool, true, false, ◌&&◌, List, [], ◌∷◌, length, drop, refl, sym, ◌∙◌, ap, arith}
use Rattle.std.specs.Prelude.{ℤ, pos, Some, nat_eq, nat_lt, cond, slice_get, min}
use Rattle.std.specs.declared.cmp.Ordering.{Ordering}
use Rattle.std.specs.declared.cmp.Ordering.TheVariants.{Less, Equal, Greater}
use Rattle.std.specs.Ordering.{ordering_then, nat_cmp, int_cmp, bool_cmp, is_eq, is_ne, eq_by_cmp, MatchOrdering}
use Rattle.std.specs.Cmp.{IsTotalOrder, IsPartialOrder, po, IsEquivalence, total, on_total, partial_order_from_total, int_cmp_total, nat_cmp_is, ranks, equiv, unsigned_ties, both_tied}
use Rattle.std.specs.Cmp.Lexicographic.{slice_cmp, pointwise, lists_total, lists_ties}
use Rattle.std.proofs.lemmas.Bool.{ltb-true, ltb-false}
use Rattle.columnar_base.specs.Row.{Row, number, integer, character, truth, unit, duration, tuple, none, some, ok, err, empty, more, variant, solo, team, tree, list, truth_eq, row_eq}
use Rattle.columnar_base.specs.AlikeLaws.{row_eq_same, row_eq_exact, alike_all, alike_is}
use Rattle.columnar_base.specs.SameRows.{same_rows}
use Rattle.columnar_base.specs.SameRowsLaws.{same_rows_law}
use Rattle.columnar_base.specs.RowsLeftLaws.{drop_next}
use Rattle.columnar_rows.specs.RowOrder.{row_cmp, rows_cmp}

-- numbers whose lexicographic order is that of the rows: the kind, then what the row holds
abbrev flag : Bool → ℤ
flag false = pos 0
flag true = pos 1

abbrev code : Row → List ℤ → List ℤ
code (number n) rest = pos 0 ∷ pos n ∷ rest
code (integer n) rest = pos 1 ∷ n ∷ rest
code (character n) rest = pos 2 ∷ pos n ∷ rest
code (truth b) rest = pos 3 ∷ flag b ∷ rest
code unit rest = pos 4 ∷ rest
code (duration s n) rest = pos 5 ∷ pos s ∷ pos n ∷ rest
code (tuple r s) rest = pos 6 ∷ code r (code s rest)
code none rest = pos 7 ∷ rest
code (some r) rest = pos 8 ∷ code r rest
code (ok r) rest = pos 9 ∷ code r rest
code (err r) rest = pos 10 ∷ code r rest
code empty rest = pos 11 ∷ rest
code (more r s) rest = pos 12 ∷ code r (code s rest)
code (variant v o) rest = pos 13 ∷ pos v ∷ pos o ∷ rest
code (solo r) rest = pos 14 ∷ code r rest
code (team r) rest = pos 15 ∷ code r rest
code (tree r s) rest = pos 16 ∷ code r (code s rest)

pos_ranks : (n m : ℕ) (a b : Bool) → nat_lt n m ≡ a → nat_lt m n ≡ b → MatchOrdering (cond a Less (cond b Greater Equal)) (n < m) (n ≡ m) (m < n)
pos_ranks n m true b p q = ltb-true n m p
pos_ranks n m false true p q = ltb-true m n q
pos_ranks n m false false p q = let l : m ≤ n = ltb-false n m p in let k : n ≤ m = ltb-false m n q in omega arith

pos_cmp : (n m : ℕ) → int_cmp (pos n) (pos m) ≡ nat_cmp n m
pos_cmp n m = nat_cmp_is n m (int_cmp (pos n) (pos m)) (pos_ranks n m (nat_lt n m) (nat_lt m n) refl refl)

suc_ranks : (n m : ℕ) (o : Ordering) → MatchOrdering o (suc n < suc m) (suc n ≡ suc m) (suc m < suc n) → MatchOrdering o (n < m) (n ≡ m) (m < n)
suc_ranks n m Less h = let l : suc n < suc m = h in omega arith
suc_ranks n m Equal h = let l : suc n ≡ suc m = h in omega arith
suc_ranks n m Greater h = let l : suc m < suc n = h in omega arith

suc_cmp : (n m : ℕ) → nat_cmp (suc n) (suc m) ≡ nat_cmp n m
suc_cmp n m = nat_cmp_is n m (nat_cmp (suc n) (suc m)) (suc_ranks n m (nat_cmp (suc n) (suc m)) (ranks (suc n) (suc m)))

flag_cmp : (b c : Bool) → int_cmp (flag b) (flag c) ≡ bool_cmp b c
flag_cmp false false = refl
flag_cmp false true = refl
flag_cmp true false = refl
flag_cmp true true = refl

then_again : (a b c : Ordering) → ordering_then a (ordering_then b c) ≡ ordering_then (ordering_then a b) c
then_again Less b c = refl
then_again Equal b c = refl
then_again Greater b c = refl

then_equal : (a : Ordering) → ordering_then a Equal ≡ a
then_equal Less = refl
then_equal Equal = refl
then_equal Greater = refl

two_numbers : (n m s t : ℕ) (o : Ordering) → ordering_then (int_cmp (pos n) (pos m)) (ordering_then (int_cmp (pos s) (pos t)) o) ≡ ordering_then (ordering_then (nat_cmp n m) (nat_cmp s t)) o
two_numbers n m s t o = rw (pos_cmp n m, pos_cmp s t) (then_again (nat_cmp n m) (nat_cmp s t) o)

-- the rows decide, then what follows them
code_cmp : (r s : Row) (xs ys : List ℤ) → slice_cmp int_cmp (code r xs) (code s ys) ≡ ordering_then (row_cmp r s) (slice_cmp int_cmp xs ys)
code_cmp (number n) (number m) xs ys = rw (pos_cmp n m) refl
code_cmp (integer n) (integer m) xs ys = refl
code_cmp (character n) (character m) xs ys = rw (pos_cmp n m) refl
code_cmp (truth b) (truth c) xs ys = rw (flag_cmp b c) refl
code_cmp unit unit xs ys = refl
code_cmp (duration s n) (duration t m) xs ys = two_numbers s t n m (slice_cmp int_cmp xs ys)
code_cmp (tuple r s) (tuple t u) xs ys = code_cmp r t (code s xs) (code u ys) ∙ ap (ordering_then (row_cmp r t)) (code_cmp s u xs ys) ∙ then_again (row_cmp r t) (row_cmp s u) (slice_cmp int_cmp xs ys)
code_cmp none none xs ys = refl
code_cmp (some r) (some s) xs ys = code_cmp r s xs ys
code_cmp (ok r) (ok s) xs ys = code_cmp r s xs ys
code_cmp (err r) (err s) xs ys = code_cmp r s xs ys
code_cmp empty empty xs ys = refl
code_cmp (more r s) (more t u) xs ys = code_cmp r t (code s xs) (code u ys) ∙ ap (ordering_then (row_cmp r t)) (code_cmp s u xs ys) ∙ then_again (row_cmp r t) (row_cmp s u) (slice_cmp int_cmp xs ys)
code_cmp (variant v o) (variant w p) xs ys = two_numbers v w o p (slice_cmp int_cmp xs ys)
code_cmp (solo r) (solo s) xs ys = code_cmp r s xs ys
code_cmp (team r) (team s) xs ys = code_cmp r s xs ys
code_cmp (tree r s) (tree t u) xs ys = code_cmp r t (code s xs) (code u ys) ∙ ap (ordering_then (row_cmp r t)) (code_cmp s u xs ys) ∙ then_again (row_cmp r t) (row_cmp s u) (slice_cmp int_cmp xs ys)
code_cmp _ _ xs ys = refl

pub row_cmp_total : IsTotalOrder row_cmp
row_cmp_total = total (partial_order_from_total (on_total (λ r. code r []) (lists_total int_cmp_total))) (λ r s. ap Some (code_cmp r s [] [] ∙ then_equal (row_cmp r s)))

-- rows are equal if and only if they compare as equal
truth_ties : (b c : Bool) → truth_eq b c ≡ is_eq (bool_cmp b c)
truth_ties false false = refl
truth_ties false true = refl
truth_ties true false = refl
truth_ties true true = refl

pub row_ties : (r s : Row) → row_eq r s ≡ eq_by_cmp row_cmp r s
row_ties (number n) (number m) = unsigned_ties n m
row_ties (integer n) (integer m) = refl
row_ties (character n) (character m) = unsigned_ties n m
row_ties (truth b) (truth c) = truth_ties b c
row_ties unit unit = refl
row_ties (duration s n) (duration t m) = both_tied (nat_eq s t) (nat_eq n m) (nat_cmp s t) (nat_cmp n m) (unsigned_ties s t) (unsigned_ties n m)
row_ties (tuple r s) (tuple t u) = both_tied (row_eq r t) (row_eq s u) (row_cmp r t) (row_cmp s u) (row_ties r t) (row_ties s u)
row_ties none none = refl
row_ties (some r) (some s) = row_ties r s
row_ties (ok r) (ok s) = row_ties r s
row_ties (err r) (err s) = row_ties r s
row_ties empty empty = refl
row_ties (more r s) (more t u) = both_tied (row_eq r t) (row_eq s u) (row_cmp r t) (row_cmp s u) (row_ties r t) (row_ties s u)
row_ties (variant v o) (variant w p) = both_tied (nat_eq v w) (nat_eq o p) (nat_cmp v w) (nat_cmp o p) (unsigned_ties v w) (unsigned_ties o p)
row_ties (solo r) (solo s) = row_ties r s
row_ties (team r) (team s) = row_ties r s
row_ties (tree r s) (tree t u) = both_tied (row_eq r t) (row_eq s u) (row_cmp r t) (row_cmp s u) (row_ties r t) (row_ties s u)
row_ties _ _ = refl

-- lists of rows
pub list_cmp : (rs ss : List Row) → row_cmp (list rs) (list ss) ≡ rows_cmp rs ss
list_cmp [] [] = refl
list_cmp [] (s ∷ ss) = refl
list_cmp (r ∷ rs) [] = refl
list_cmp (r ∷ rs) (s ∷ ss) = ap (ordering_then (row_cmp r s)) (list_cmp rs ss)

pub list_same : (rs ss : List Row) → row_eq (list rs) (list ss) ≡ same_rows rs ss
list_same [] [] = refl
list_same [] (s ∷ ss) = refl
list_same (r ∷ rs) [] = refl
list_same (r ∷ rs) (s ∷ ss) = ap (λ b. row_eq r s && b) (list_same rs ss)

pub same_is_pointwise : (rs ss : List Row) → same_rows rs ss ≡ pointwise row_eq rs ss
same_is_pointwise [] [] = refl
same_is_pointwise [] (s ∷ ss) = refl
same_is_pointwise (r ∷ rs) [] = refl
same_is_pointwise (r ∷ rs) (s ∷ ss) = ap (λ b. row_eq r s && b) (same_is_pointwise rs ss)

pub rows_cmp_total : IsTotalOrder rows_cmp
rows_cmp_total = lists_total row_cmp_total

pub rows_ties : (rs ss : List Row) → same_rows rs ss ≡ eq_by_cmp rows_cmp rs ss
rows_ties rs ss = same_is_pointwise rs ss ∙ lists_ties row_cmp row_ties rs ss

-- the order agrees with equality
pub rows_order : IsPartialOrder same_rows (λ rs ss. Some (rows_cmp rs ss))
rows_order = po rows_cmp_total rows_ties

-- equality of rows is an equivalence
pub same_rows_equivalence : {V : Type 0} (rows : V → List Row) → IsEquivalence (λ v w. same_rows (rows v) (rows w))
same_rows_equivalence rows = equiv (same_rows_law rows) (λ v. alike_all row_eq row_eq_same (rows v))

-- equal rows give a hasher equal input, for any function of the rows
pub same_rows_feed : {X : Type 0} (feed : List Row → X) (rs ss : List Row) → same_rows rs ss ≡ true → feed rs ≡ feed ss
same_rows_feed feed rs ss h = ap feed (alike_is row_eq row_eq_exact rs ss h)

-- the remaining rows of two lists decide how they compare
abbrev pub RestOrders : List Row → List Row → ℕ → Type 0
RestOrders rs ss i = rows_cmp rs ss ≡ rows_cmp (drop i rs) (drop i ss)

order_step : (rs ss : List Row) (i : ℕ) (r s : Row) → slice_get rs i ≡ Some r → slice_get ss i ≡ Some s → RestOrders rs ss i → rows_cmp rs ss ≡ ordering_then (row_cmp r s) (rows_cmp (drop (i + 1) rs) (drop (i + 1) ss))
order_step rs ss i r s p q d = d ∙ rw (drop_next rs i r p, drop_next ss i s q) refl

found_then : (o p : Ordering) → is_ne o ≡ true → ordering_then o p ≡ o
found_then Less p h = refl
found_then Equal p h = cc
found_then Greater p h = refl

equal_then : (o p : Ordering) → is_ne o ≡ false → ordering_then o p ≡ p
equal_then Less p h = cc
equal_then Equal p h = refl
equal_then Greater p h = cc

-- an unequal pair decides
pub order_found : (rs ss : List Row) (i : ℕ) (r s : Row) (o : Ordering) → slice_get rs i ≡ Some r → slice_get ss i ≡ Some s → o ≡ row_cmp r s → is_ne o ≡ true → RestOrders rs ss i → o ≡ rows_cmp rs ss
order_found rs ss i r s o p q e h d =
    let k = order_step rs ss i r s p q d in
    sym (k ∙ rw (← e) (found_then o (rows_cmp (drop (i + 1) rs) (drop (i + 1) ss)) h))

-- after an equal pair, the rest decides
pub order_more : (rs ss : List Row) (i : ℕ) (r s : Row) (o : Ordering) → slice_get rs i ≡ Some r → slice_get ss i ≡ Some s → o ≡ row_cmp r s → is_ne o ≡ false → RestOrders rs ss i → RestOrders rs ss (i + 1)
order_more rs ss i r s o p q e h d =
    let k = order_step rs ss i r s p q d in
    k ∙ rw (← e) (equal_then o (rows_cmp (drop (i + 1) rs) (drop (i + 1) ss)) h)

lengths_cmp : (rs ss : List Row) (i : ℕ) → i ≡ min (length rs) (length ss) → rows_cmp (drop i rs) (drop i ss) ≡ nat_cmp (length rs) (length ss)
lengths_cmp [] [] i e = let z : i ≡ 0 = omega arith in rw z refl
lengths_cmp [] (s ∷ ss) i e = let z : i ≡ 0 = omega arith in rw z (nat_cmp_is 0 (length (s ∷ ss)) Less (omega arith))
lengths_cmp (r ∷ rs) [] i e = let z : i ≡ 0 = omega arith in rw z (nat_cmp_is (length (r ∷ rs)) 0 Greater (omega arith))
lengths_cmp (r ∷ rs) (s ∷ ss) zero e = absurd (omega arith)
lengths_cmp (r ∷ rs) (s ∷ ss) (suc i) e = lengths_cmp rs ss i (omega arith) ∙ sym (suc_cmp (length rs) (length ss))

-- if no pair remains, the lengths decide
pub order_end : (rs ss : List Row) (i : ℕ) (o : Ordering) → i ≡ min (length rs) (length ss) → o ≡ nat_cmp (length rs) (length ss) → RestOrders rs ss i → o ≡ rows_cmp rs ss
order_end rs ss i o m e d = e ∙ sym (d ∙ lengths_cmp rs ss i m)
