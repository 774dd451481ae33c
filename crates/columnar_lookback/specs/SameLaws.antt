-- The answers of tests for equal rows, for each part.
use Rattle.std.proofs.Common.{◌≡◌, ℕ, Bool, true, false, ◌&&◌, List, [], ◌∷◌, refl, sym, ◌∙◌, ap}
use Rattle.std.specs.Prelude.{slice_get, Some, not, map}
use Rattle.columnar_base.specs.Row.{Row, unit, truth, tuple, none, some, empty, list, items_of, list_end, row_eq}
use Rattle.columnar_base.specs.Format.{Format, Content, both, IsSame, IsSound, all_alike}
use Rattle.columnar_base.specs.Tuples.{tuples, pair_alike}
use Rattle.columnar_base.specs.TupleLaws.{slice_get-tuples}
use Rattle.columnar_base.specs.ChangeLaws.{slice_get_some}
use Rattle.columnar_lists.specs.Lists.{list_alike}
use Rattle.columnar_sums.specs.Counting.{ones}
use Rattle.columnar_sums.specs.RankColumns.{ranks_bits}
use Rattle.columnar_sums.specs.Options.{weave, option_alike, options_format}
use Rattle.columnar_sums.specs.OptionLaws.{options_value, options_some, options_absent}

-- a position has one row
pub one_row : (rs : List Row) (i : ℕ) (u r : Row) → slice_get rs i ≡ Some u → slice_get rs i ≡ Some r → r ≡ u
one_row rs i u r h k = cc

pub pair_then : (a b : Row → Row → Bool) (rs ss : List Row) (i : ℕ) (u v p q r : Row) → slice_get rs i ≡ Some u → slice_get ss i ≡ Some v → slice_get (tuples rs ss) i ≡ Some r → true ≡ a u p → b v q ≡ pair_alike a b r (tuple p q)
pair_then a b rs ss i u v p q r h k z e = rw (one_row (tuples rs ss) i (tuple u v) r (slice_get-tuples i rs ss u v h k) z, ← e) refl

pub pair_else : (a b : Row → Row → Bool) (rs ss : List Row) (i : ℕ) (u v p q r : Row) → slice_get rs i ≡ Some u → slice_get ss i ≡ Some v → slice_get (tuples rs ss) i ≡ Some r → false ≡ a u p → false ≡ pair_alike a b r (tuple p q)
pair_else a b rs ss i u v p q r h k z e = rw (one_row (tuples rs ss) i (tuple u v) r (slice_get-tuples i rs ss u v h k) z, ← e) refl

pub some_at : (kin : Row → Row → Bool) (rs : List Row) (i : ℕ) (v q r : Row) → slice_get rs i ≡ Some (some v) → slice_get rs i ≡ Some r → kin v q ≡ option_alike kin r (some q)
some_at kin rs i v q r h k = rw (one_row rs i (some v) r h k) refl

pub none_at : (kin : Row → Row → Bool) (rs : List Row) (i : ℕ) (q r : Row) → slice_get rs i ≡ Some none → slice_get rs i ≡ Some r → false ≡ option_alike kin r (some q)
none_at kin rs i q r h k = rw (one_row rs i none r h k) refl

some_not_none : (kin : Row → Row → Bool) (rs : List Row) (i : ℕ) (v r : Row) → slice_get rs i ≡ Some (some v) → slice_get rs i ≡ Some r → false ≡ option_alike kin r none
some_not_none kin rs i v r h k = rw (one_row rs i (some v) r h k) refl

both_none : (kin : Row → Row → Bool) → IsSame kin → (rs : List Row) (i : ℕ) (r : Row) → slice_get rs i ≡ Some none → slice_get rs i ≡ Some r → true ≡ option_alike kin r none
both_none kin e rs i r h k = rw (one_row rs i none r h k) (sym (e.reflexive unit))

-- no value and none
pub none_is : (t : Format) {x y : Content} (i : ℕ) (z : Bool) (r : Row) → IsSame t.kin → IsSound (options_format t) (both x y) → slice_get (map truth (ranks_bits x)) i ≡ Some (truth z) → slice_get (weave (ranks_bits x) (t.rows y)) i ≡ Some r → not z ≡ option_alike t.kin r none
none_is t {x} {y} i true r e s h k =
    let v = slice_get_some (t.rows y) (ones (ranks_bits x) i) (options_value t i s h) in
    some_not_none t.kin (weave (ranks_bits x) (t.rows y)) i v.0 r (options_some t x y i v.0 h v.1) k
none_is t {x} {y} i false r e s h k = both_none t.kin e (weave (ranks_bits x) (t.rows y)) i r (options_absent t x y i h) k

-- texts

and_none : (a : Bool) → (a && false) ≡ false
and_none true = refl
and_none false = refl

and_swap : (a b c : Bool) → (a && (b && c)) ≡ (b && (a && c))
and_swap true b c = refl
and_swap false true c = refl
and_swap false false c = refl

list_rows : (us vs : List Row) → row_eq (list us) (list vs) ≡ list_alike row_eq (list us) (list vs)
list_rows [] [] = refl
list_rows [] (v ∷ vs) = sym (and_none (row_eq empty (list_end (list vs))))
list_rows (u ∷ us) [] = sym (and_none (row_eq (list_end (list us)) empty))
list_rows (u ∷ us) (v ∷ vs) =
    let h = list_rows us vs in
    ap (λ (b : Bool). row_eq u v && b) h ∙ and_swap (row_eq u v) (row_eq (list_end (list us)) (list_end (list vs))) (all_alike row_eq (items_of (list us)) (items_of (list vs)))

-- a text at a position is the same as another if the rows are equal
pub text_at : (rs : List Row) (i : ℕ) (us vs : List Row) (r s : Row) → slice_get rs i ≡ Some (list us) → slice_get rs i ≡ Some r → s ≡ list vs → row_eq (list us) (list vs) ≡ list_alike row_eq r s
text_at rs i us vs r s h k e = rw (one_row rs i (list us) r h k, e) (list_rows us vs)
