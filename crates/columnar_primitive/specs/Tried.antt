-- Columns of multiples that are converted from columns with a stride.
use Rattle.std.specs.Prelude.{ℕ, ◌≡◌, Some, Result, Ok, Err}
use Rattle.columnar_core.specs.Format.{Content, IsSound}
use Rattle.columnar_primitive.specs.Fixed.{fixed_format, fixed_rows}
use Rattle.columnar_primitive.specs.Stride.{strides_format, strides_rows, strided}

-- Ok: the item is strided by k, and the new column has the same rows; it is sound if the item is. Err: the item is
-- returned, and if it is sound, it is not strided by k.
abbrev pub Tried : {F S : Type 0} → ℕ → (F → Content) → (S → Content) → S → Result F S → Type 0
Tried k fixed strides item (Ok column) =
    (strided (strides item) ≡ Some k) ×
    ((fixed_rows k (fixed column) ≡ strides_rows (strides item)) ×
    (IsSound strides_format (strides item) → IsSound (fixed_format k) (fixed column)))
Tried k fixed strides item (Err back) =
    (back ≡ item) ×
    (IsSound strides_format (strides item) → strided (strides item) ≡ Some k → ⊥)
