-- Limits of columns in which a row may refer to an earlier one.
use Rattle.std.specs.Prelude.{List, ◌⊎◌}
use Rattle.columnar_base.specs.Row.{Row}
use Rattle.columnar_base.specs.May.{Limit, AreAmong, count_limit}

-- There are too many rows, or the values cannot hold some of them, in order. If the values' limit is steady, they then
-- cannot hold all of the rows.
abbrev pub recall_limit : Limit → Limit
recall_limit t e rs = count_limit e rs ⊎ ((vs : List Row) × (AreAmong vs rs × t e vs))
