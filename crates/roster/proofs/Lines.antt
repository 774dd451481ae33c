-- Sums and lines of a list, one item at a time.
use Rattle.std.proofs.Common.{ℕ, zero, suc, List, [], ◌∷◌, ◌++◌, ◌≡◌, ◌≤◌, ◌+◌, ◌%◌, ◌^◌, Option, Some, length, take, sum_by, refl, sym, ap, ◌∙◌, arith, append_assoc, append-nil, codes, decimal}
use Rattle.std.specs.Prelude.{slice_get}
use Rattle.std.proofs.lemmas.List.{take_all}
use Rattle.std.proofs.lemmas.List.Sums.{sum_by-append}
use Rattle.columnar.specs.ChangeLaws.{take-suc_get}
use Rattle.columnar.specs.Row.{Row, list, items_of}
use Rattle.roster.specs.Told.{slice_line, slice_lines, sum_line}

pub sum_more : {X : Type 0} (f : X → ℕ) (xs : List X) (i : ℕ) (x : X) → slice_get xs i ≡ Some x → sum_by f (take (suc i) xs) ≡ sum_by f (take i xs) + f x
sum_more f xs i x h =
    let one : sum_by f (x ∷ []) ≡ f x = omega arith in
    ap (sum_by f) (take-suc_get i xs x h) ∙ sum_by-append f (take i xs) (x ∷ []) ∙ ap (λ n. sum_by f (take i xs) + n) one

-- the items of a list are its rows
pub items_again : (rs : List Row) → items_of (list rs) ≡ rs
items_again [] = refl
items_again (r ∷ rs) = ap (λ t. r ∷ t) (items_again rs)

-- one more summand of a sum that wraps
pub wraps_more : {X : Type 0} (f : X → ℕ) (xs : List X) (i : ℕ) (x : X) (before old new : ℕ) → slice_get xs i ≡ Some x → new ≡ (old + f x) % 2 ^ 64
    → old ≡ (before + sum_by f (take i xs)) % 2 ^ 64 → new ≡ (before + sum_by f (take (i + 1) xs)) % 2 ^ 64
wraps_more f xs i x before old new h added e = let next : i + 1 ≡ suc i = omega arith in let more = sum_more f xs i x h in rw next (omega (arith, more, added, e))

-- all summands of a sum that wraps
pub wraps_all : {X : Type 0} (f : X → ℕ) (xs ys : List X) (i : ℕ) (before sum : ℕ) → length xs ≤ i → ys ≡ xs
    → sum ≡ (before + sum_by f (take i xs)) % 2 ^ 64 → sum ≡ (before + sum_by f ys) % 2 ^ 64
wraps_all f xs ys i before sum h same e = e ∙ ap (λ zs. (before + sum_by f zs) % 2 ^ 64) (take_all i xs h ∙ sym same)

some_is : {X : Type 0} (x y : X) → Some x ≡ Some y → x ≡ y
some_is x y e = cc

first_of_both : (align : ℕ) (bytes : List ℕ) (a : ℕ) (s : List ℕ) → Some a ≡ Some align → Some s ≡ Some bytes → slice_line a s ≡ slice_line align bytes
first_of_both align bytes a s p q = rw (some_is a align p, some_is s bytes q) refl

-- the lines of one more slice
pub lines_more : (aligns : List ℕ) (slices : List (List ℕ)) (i align : ℕ) (bytes : List ℕ) → slice_get aligns i ≡ Some align → slice_get slices i ≡ Some bytes
    → slice_lines (take (suc i) aligns) (take (suc i) slices) ≡ slice_lines (take i aligns) (take i slices) ++ slice_line align bytes
lines_more [] slices i align bytes p q = cc
lines_more (a ∷ aligns) [] i align bytes p q = cc
lines_more (a ∷ aligns) (s ∷ slices) zero align bytes p q =
    let one = first_of_both align bytes a s p q in
    append-nil (slice_line a s) ∙ one
lines_more (a ∷ aligns) (s ∷ slices) (suc i) align bytes p q =
    ap (λ t. slice_line a s ++ t) (lines_more aligns slices i align bytes p q) ∙ sym (append_assoc (slice_line a s) (slice_lines (take i aligns) (take i slices)) (slice_line align bytes))

-- the same, for a line appended to a text
pub lines_step : (aligns : List ℕ) (slices : List (List ℕ)) (i align count : ℕ) (bytes old new : List ℕ) → slice_get aligns i ≡ Some align → slice_get slices i ≡ Some bytes
    → count ≡ length bytes → old ≡ slice_lines (take i aligns) (take i slices)
    → new ≡ old ++ (codes "align: " ++ (decimal align ++ (codes ", bytes.len(): " ++ (decimal count ++ codes "\n"))))
    → new ≡ slice_lines (take (i + 1) aligns) (take (i + 1) slices)
lines_step aligns slices i align count bytes old new p q counted held wrote =
    let next : i + 1 ≡ suc i = omega arith in
    rw next (rw (counted, held) at wrote ∙ sym (lines_more aligns slices i align bytes p q))

-- the line of the sum, after the others
pub sum_last : (lines old new : List ℕ) (told sum : ℕ) → old ≡ lines → told ≡ sum
    → new ≡ old ++ (codes "Present values summed: " ++ (decimal told ++ codes "\n")) → new ≡ lines ++ sum_line sum
sum_last lines old new told sum held same wrote = rw (held, same) at wrote
