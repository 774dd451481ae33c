use Rattle.std.proofs.Common.{◌≡◌, Bool, true, false, List, [], ◌∷◌, refl, sym, ◌∙◌, ap}
use Rattle.std.specs.Prelude.{nat_eq}
use Rattle.std.proofs.lemmas.Bool.{and_parts, and_from, eqb-true, eq-eqb}
use Rattle.std.proofs.lemmas.Bool.Decides.{Decides-int_eq}
use Rattle.columnar_base.specs.Row.{Row, number, integer, character, truth, unit, duration, tuple, none, some, ok, err, empty, more, variant, solo, team, tree, list, first_of, second_of, bare_tuple, items_of, list_end, truth_eq, row_eq}

truth_eq-refl : (b : Bool) → truth_eq b b ≡ true
truth_eq-refl true = refl
truth_eq-refl false = refl

truth_eq-is : (b c : Bool) → truth_eq b c ≡ true → b ≡ c
truth_eq-is true true h = refl
truth_eq-is false false h = refl
truth_eq-is true false h = cc
truth_eq-is false true h = cc

-- a row equals itself
pub row_eq-refl : (r : Row) → row_eq r r ≡ true
row_eq-refl (number n) = eq-eqb n n refl
row_eq-refl (integer n) = (Decides-int_eq n n).1 refl
row_eq-refl (character n) = eq-eqb n n refl
row_eq-refl (truth b) = truth_eq-refl b
row_eq-refl unit = refl
row_eq-refl (duration s n) = and_from _ _ (eq-eqb s s refl) (eq-eqb n n refl)
row_eq-refl (tuple r s) = and_from _ _ (row_eq-refl r) (row_eq-refl s)
row_eq-refl none = refl
row_eq-refl (some r) = row_eq-refl r
row_eq-refl (ok r) = row_eq-refl r
row_eq-refl (err r) = row_eq-refl r
row_eq-refl empty = refl
row_eq-refl (more r s) = and_from _ _ (row_eq-refl r) (row_eq-refl s)
row_eq-refl (variant v o) = and_from _ _ (eq-eqb v v refl) (eq-eqb o o refl)
row_eq-refl (solo r) = row_eq-refl r
row_eq-refl (team r) = row_eq-refl r
row_eq-refl (tree r s) = and_from _ _ (row_eq-refl r) (row_eq-refl s)

-- rows that the test finds equal are equal
pub row_eq-is : (r s : Row) → row_eq r s ≡ true → r ≡ s
row_eq-is (number n) (number m) h = ap number (eqb-true n m h)
row_eq-is (integer n) (integer m) h = ap integer ((Decides-int_eq n m).0 h)
row_eq-is (character n) (character m) h = ap character (eqb-true n m h)
row_eq-is (truth b) (truth c) h = ap truth (truth_eq-is b c h)
row_eq-is unit unit h = refl
row_eq-is (duration s n) (duration t m) h = let p = and_parts (nat_eq s t) (nat_eq n m) h in let a = eqb-true s t p.0 in let b = eqb-true n m p.1 in rw (a, b) refl
row_eq-is (tuple r s) (tuple t u) h = let p = and_parts (row_eq r t) (row_eq s u) h in let a = row_eq-is r t p.0 in let b = row_eq-is s u p.1 in rw (a, b) refl
row_eq-is none none h = refl
row_eq-is (some r) (some s) h = ap some (row_eq-is r s h)
row_eq-is (ok r) (ok s) h = ap ok (row_eq-is r s h)
row_eq-is (err r) (err s) h = ap err (row_eq-is r s h)
row_eq-is empty empty h = refl
row_eq-is (more r s) (more t u) h = let p = and_parts (row_eq r t) (row_eq s u) h in let a = row_eq-is r t p.0 in let b = row_eq-is s u p.1 in rw (a, b) refl
row_eq-is (variant v o) (variant w p) h = let q = and_parts (nat_eq v w) (nat_eq o p) h in let a = eqb-true v w q.0 in let b = eqb-true o p q.1 in rw (a, b) refl
row_eq-is (solo r) (solo s) h = ap solo (row_eq-is r s h)
row_eq-is (team r) (team s) h = ap team (row_eq-is r s h)
row_eq-is (tree r s) (tree t u) h = let p = and_parts (row_eq r t) (row_eq s u) h in let a = row_eq-is r t p.0 in let b = row_eq-is s u p.1 in rw (a, b) refl
row_eq-is _ _ h = cc

pub is-row_eq : (r s : Row) → r ≡ s → row_eq r s ≡ true
is-row_eq r s e = rw e (row_eq-refl s)

abbrev tuple_again : Row → Row → Row → Row
tuple_again (tuple p q) r s = tuple r s
tuple_again p r s = p

tuple_again-is : (r : Row) → tuple_again (bare_tuple r) (first_of r) (second_of r) ≡ r
tuple_again-is (tuple r s) = refl
tuple_again-is _ = refl

-- a row is determined by its bare form and its parts
pub same_tuple : (r s : Row) → bare_tuple r ≡ bare_tuple s → first_of r ≡ first_of s → second_of r ≡ second_of s → r ≡ s
same_tuple r s a b c = sym (tuple_again-is r) ∙ (rw (a, b, c) (tuple_again-is s))

abbrev listed : List Row → Row → Row
listed [] end = end
listed (r ∷ rs) end = more r (listed rs end)

listed-is : (r : Row) → listed (items_of r) (list_end r) ≡ r
listed-is (more r s) = ap (more r) (listed-is s)
listed-is _ = refl

-- a row is determined by its items and what ends them
pub same_items : (r s : Row) → items_of r ≡ items_of s → list_end r ≡ list_end s → r ≡ s
same_items r s a b = sym (listed-is r) ∙ (rw (a, b) (listed-is s))

pub items_of-list : (rs : List Row) → items_of (list rs) ≡ rs
items_of-list [] = refl
items_of-list (r ∷ rs) = ap (λ t. r ∷ t) (items_of-list rs)

pub end_of-list : (rs : List Row) → list_end (list rs) ≡ empty
end_of-list [] = refl
end_of-list (r ∷ rs) = end_of-list rs
