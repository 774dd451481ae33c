-- Laws of iterating over lists.
use Rattle.std.proofs.Common.{◌≡◌, ℕ, ◌+◌, ◌-◌, ◌≤◌, List, [], ◌∷◌, length, take, drop, sym, ◌∙◌, ap, arith}
use Rattle.std.specs.Prelude.{Some, slice_get}
use Rattle.std.proofs.lemmas.List.{drop_all, length-drop}
use Rattle.columnar_base.specs.Row.{Row, list, number}
use Rattle.columnar_base.specs.RowsLeftLaws.{drop_next}
use Rattle.columnar_base.specs.Format.{Format, Content, both}
use Rattle.columnar_core.specs.Bounds.{numbers}
use Rattle.columnar_core.specs.BoundLaws.{number_get}
use Rattle.columnar_lists.specs.CutLaws.{cut_get}
use Rattle.columnar_lists.specs.ListLaws.{length-lists}
use Rattle.columnar_lists.specs.Lists.{lists_rows}

-- the list between two bounds is the first of those from its index on
pub list_next : (b t : Format) (x y : Content) (i j l u : ℕ) → slice_get (0 ∷ numbers (b.rows x)) i ≡ Some l → slice_get (b.rows x) i ≡ Some (number u) → j ≡ i + 1 → drop i (lists_rows b t (both x y)) ≡ list (take (u - l) (drop l (t.rows y))) ∷ drop j (lists_rows b t (both x y))
list_next b t x y i j l u p q e = rw e (drop_next (lists_rows b t (both x y)) i (list (take (u - l) (drop l (t.rows y)))) (cut_get i 0 (numbers (b.rows x)) (t.rows y) l u p (number_get (b.rows x) i u q)))

-- no list remains after the last
pub lists_over : (b t : Format) (x y : Content) (i : ℕ) → i ≡ length (b.rows x) → drop i (lists_rows b t (both x y)) ≡ []
lists_over b t x y i e = drop_all i (lists_rows b t (both x y)) (let n = length-lists b t x y in omega (arith, n, e))

-- the number of remaining lists
pub length-left : (b t : Format) (x y : Content) (i n : ℕ) → n ≡ length (b.rows x) → length (drop i (lists_rows b t (both x y))) ≡ n - i
length-left b t x y i n e = length-drop i (lists_rows b t (both x y)) ∙ ap (λ k. k - i) (length-lists b t x y ∙ sym e)
