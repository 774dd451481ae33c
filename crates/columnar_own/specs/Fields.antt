-- The fields of rows that are tuples. A tuple of one holds its only field; a longer one is the pair of its first field and
-- the tuple of the others, down to the last field.
use Rattle.std.specs.Prelude.{ℕ, zero, suc, List}
use Rattle.columnar_base.specs.Row.{Row}
use Rattle.columnar_base.specs.Solos.{onlies}
use Rattle.columnar_base.specs.Tuples.{firsts, seconds}

-- field k of each row, if it is not the last
abbrev pub rows_of_field : ℕ → List Row → List Row
rows_of_field zero rs = firsts rs
rows_of_field (suc k) rs = rows_of_field k (seconds rs)

-- field k of each row, if it is the last
abbrev pub rows_of_last : ℕ → List Row → List Row
rows_of_last zero rs = rs
rows_of_last (suc k) rs = rows_of_last k (seconds rs)

-- the only field of each row
abbrev pub rows_of_only : List Row → List Row
rows_of_only rs = onlies rs
