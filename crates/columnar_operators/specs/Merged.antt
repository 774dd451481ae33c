-- Two columns of rows, merged.
use Rattle.std.specs.Prelude.{List, [], ◌∷◌, cond}
use Rattle.std.specs.Ordering.{is_lt}
use Rattle.columnar_base.specs.Row.{Row}
use Rattle.columnar_rows.specs.RowOrder.{row_cmp}

-- the less of the two first rows comes first, and of equal ones that of the first list
abbrev pub merged : List Row → List Row → List Row
merged [] ys = ys
merged (x ∷ xs) [] = x ∷ xs
merged (x ∷ xs) (y ∷ ys) = cond (is_lt (row_cmp y x)) (y ∷ merged (x ∷ xs) ys) (x ∷ merged xs (y ∷ ys))
