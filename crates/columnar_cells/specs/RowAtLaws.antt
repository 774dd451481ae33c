-- Row i of a column, from the rows of its parts.
use Rattle.std.proofs.Common.{ℕ, zero, suc, ◌≡◌, ◌<◌, ◌+◌, ◌&&◌, ◌∙◌, sym, Bool, true, false, List, [], ◌∷◌, length, map, refl, ap, arith, take, drop}
use Rattle.std.specs.Prelude.{slice_get, Some, None, IsTrue, ◌↔◌}
use Rattle.columnar_base.specs.Row.{Row, unit, tuple, solo}
use Rattle.columnar_base.specs.Format.{Format, Content, slice, both, part, plain, IsSound}
use Rattle.columnar_base.specs.Tuples.{tuples, pair_format}
use Rattle.columnar_base.specs.TupleLaws.{pair_parts, pair_within, length-tuples}
use Rattle.columnar_base.specs.LongTuples.{nested, tuple_format, PartOf, Parts}
use Rattle.columnar_base.specs.LongTupleLaws.{tuple_parts, within}
use Rattle.columnar_cells.specs.Wrote.{row_in, row_at}

-- A row that exists is read.
pub get_row_at : (rs : List Row) (i : ℕ) → i < length rs → slice_get rs i ≡ Some (row_at rs i)
get_row_at [] i l = absurd (omega arith)
get_row_at (r ∷ rs) zero l = refl
get_row_at (r ∷ rs) (suc i) l = get_row_at rs i (omega arith)

pub row_at_get : (rs : List Row) (i : ℕ) (r : Row) → slice_get rs i ≡ Some r → row_at rs i ≡ r
row_at_get rs i r h = ap row_in h

-- row i of a tuple has row i of each part
pub row_at-tuples : (i : ℕ) (xs ys : List Row) → length xs ≡ length ys → i < length xs → row_at (tuples xs ys) i ≡ tuple (row_at xs i) (row_at ys i)
row_at-tuples i [] ys e l = absurd (omega arith)
row_at-tuples i (x ∷ xs) [] e l = cc
row_at-tuples zero (x ∷ xs) (y ∷ ys) e l = refl
row_at-tuples (suc i) (x ∷ xs) (y ∷ ys) e l = row_at-tuples i xs ys (omega (arith, e)) (omega (arith, l))

pub row_at-map : (f : Row → Row) (rs : List Row) (i : ℕ) → i < length rs → row_at (map f rs) i ≡ f (row_at rs i)
row_at-map f [] i l = absurd (omega arith)
row_at-map f (r ∷ rs) zero l = refl
row_at-map f (r ∷ rs) (suc i) l = row_at-map f rs i (omega (arith, l))

pub pair_row : (a b : Format) {x y : Content} (i : ℕ) → IsSound (pair_format a b) (both x y) → i < length (tuples (a.rows x) (b.rows y)) → row_at (tuples (a.rows x) (b.rows y)) i ≡ tuple (row_at (a.rows x) i) (row_at (b.rows y) i)
pair_row a b {x} {y} i s l = row_at-tuples i (a.rows x) (b.rows y) (pair_parts a b s).level (pair_within a b i s l).0

-- row i of all parts, as nested pairs
abbrev pub parts_row : Format → List Format → Content → ℕ → Row
parts_row a [] c i = row_at (a.rows c) i
parts_row a (b ∷ fs) (both x y) i = tuple (row_at (a.rows x) i) (parts_row b fs y i)
parts_row a (b ∷ fs) (slice bs) i = unit
parts_row a (b ∷ fs) (part l u x) i = unit
parts_row a (b ∷ fs) (plain rs) i = unit

length-nested : (a : Format) (fs : List Format) (c : Content) (n : ℕ) → Parts a fs c n → length ((nested a fs).rows c) ≡ n
length-nested a [] c n p = p.level
length-nested a (b ∷ fs) (both x y) n p = length-tuples (a.rows x) ((nested b fs).rows y) (p.0.level ∙ sym (length-nested b fs y n p.1)) ∙ p.0.level
length-nested a (b ∷ fs) (slice bs) n p = absurd p
length-nested a (b ∷ fs) (part l u x) n p = absurd p
length-nested a (b ∷ fs) (plain rs) n p = absurd p

nested_row : (a : Format) (fs : List Format) (c : Content) (n i : ℕ) → Parts a fs c n → i < n → row_at ((nested a fs).rows c) i ≡ parts_row a fs c i
nested_row a [] c n i p l = refl
nested_row a (b ∷ fs) (both x y) n i p l =
    row_at-tuples i (a.rows x) ((nested b fs).rows y) (p.0.level ∙ sym (length-nested b fs y n p.1)) (within p.0 l) ∙ ap (λ r. tuple (row_at (a.rows x) i) r) (nested_row b fs y n i p.1 l)
nested_row a (b ∷ fs) (slice bs) n i p l = absurd p
nested_row a (b ∷ fs) (part m u x) n i p l = absurd p
nested_row a (b ∷ fs) (plain rs) n i p l = absurd p

-- row i of a tuple of any width
pub tuple_row : (a b : Format) (fs : List Format) {x y : Content} (i : ℕ) → IsSound (tuple_format a b fs) (both x y) → i < length (tuples (a.rows x) ((nested b fs).rows y)) → row_at (tuples (a.rows x) ((nested b fs).rows y)) i ≡ parts_row a (b ∷ fs) (both x y) i
tuple_row a b fs {x} {y} i s l = nested_row a (b ∷ fs) (both x y) _ i (tuple_parts a b fs s) l

-- the answers of tests: false, and the conjunction of two
pub never : {P : Type 0} → (P → ⊥) → IsTrue false ↔ P
never {P} f = (λ h. cc, λ p. absurd (f p))

pub both_hold : {P Q : Type 0} (p q : Bool) → (IsTrue p ↔ P) → (IsTrue q ↔ Q) → IsTrue (p && q) ↔ (P × Q)
both_hold {P} {Q} true true f g = (λ h. (f.0 h, g.0 h), λ h. refl)
both_hold {P} {Q} true false f g = (λ h. cc, λ h. g.1 h.1)
both_hold {P} {Q} false true f g = (λ h. cc, λ h. f.1 h.0)
both_hold {P} {Q} false false f g = (λ h. cc, λ h. f.1 h.0)

pub row_at-drop : (l : ℕ) (rs : List Row) (k : ℕ) → row_at (drop l rs) k ≡ row_at rs (l + k)
row_at-drop zero rs k = let e : zero + k ≡ k = omega arith in rw e refl
row_at-drop (suc l) [] k = refl
row_at-drop (suc l) (r ∷ rs) k = let e : suc l + k ≡ suc (l + k) = omega arith in rw e (row_at-drop l rs k)

pub row_at-take : (n : ℕ) (rs : List Row) (k : ℕ) → k < n → row_at (take n rs) k ≡ row_at rs k
row_at-take zero rs k l = absurd (omega arith)
row_at-take (suc n) [] k l = refl
row_at-take (suc n) (r ∷ rs) zero l = refl
row_at-take (suc n) (r ∷ rs) (suc k) l = row_at-take n rs k (omega (arith, l))
