-- Laws of iterating over strings.
use Rattle.std.proofs.Common.{◌≡◌, ℕ, ◌+◌, ◌-◌, List, ◌∷◌, take, drop}
use Rattle.std.specs.Prelude.{Some, slice_get}
use Rattle.std.specs.Int.{to_le_bytes, w8}
use Rattle.columnar_base.specs.Row.{number}
use Rattle.columnar_base.specs.RowsLeftLaws.{drop_next}
use Rattle.columnar_base.specs.Format.{Format, Content, both}
use Rattle.columnar_base.specs.Elements.{elements}
use Rattle.columnar_base.specs.Texts.{text_row}
use Rattle.columnar_core.specs.Bounds.{numbers}
use Rattle.columnar_strings.specs.Strings.{strings_format}
use Rattle.columnar_strings.specs.StringLaws.{string_read}

-- the string between two bounds is the first of those from its index on
pub string_next : (b : Format) (x : Content) (xs : List ℕ) (i j : ℕ) {l u : ℕ} → slice_get (0 ∷ numbers (b.rows x)) i ≡ Some l → slice_get (b.rows x) i ≡ Some (number u) → j ≡ i + 1 → drop i ((strings_format b).rows (both x (elements (to_le_bytes w8) xs))) ≡ text_row (take (u - l) (drop l xs)) ∷ drop j ((strings_format b).rows (both x (elements (to_le_bytes w8) xs)))
string_next b x xs i j {l} {u} p q e = rw e (drop_next ((strings_format b).rows (both x (elements (to_le_bytes w8) xs))) i (text_row (take (u - l) (drop l xs))) (string_read b x xs i p q))
