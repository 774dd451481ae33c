-- The remaining rows of an iterator over a column.
use Rattle.std.specs.Prelude.{List, [], ◌∷◌, drop, Option, IfSome}
use Rattle.std.specs.Iterator.{YieldsFirstBy}
use Rattle.columnar_base.specs.Row.{Row}
use Rattle.columnar_base.specs.declared.iter.IterOwn.{IterOwn}

-- the rows of the column from the iterator's index on
abbrev pub rows_left : {S : Type 0} {column : _} → IterOwn S column → List Row
rows_left {column = column} it = drop it.index (column.format.rows (column.content it.slice))

-- A call from s returned the first remaining row as a valid item, and left the others; or no row remained, it returned
-- `None`, and none remains.
abbrev pub GivesRow : {S A : Type 0} → (S → List Row) → (A → Row) → (A → Type 0) → S → Option A → S → Type 0
GivesRow left meaning valid s given t = YieldsFirstBy meaning left s given t × IfSome given valid
