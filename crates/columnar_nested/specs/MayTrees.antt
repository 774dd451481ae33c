-- The rows that columns of trees deny.
use Rattle.std.specs.Prelude.{◌⊎◌}
use Rattle.columnar_base.specs.May.{Limit, count_limit}
use Rattle.columnar_nested.specs.TreeRows.{level_values}

-- There are too many nodes, or their values are denied.
abbrev pub nodes_limit : Limit → Limit
nodes_limit t e rs = count_limit e rs ⊎ t e rs

-- There are too many trees, or the values of all their nodes, level by level, are denied.
abbrev pub trees_limit : Limit → Limit
trees_limit t e rs = count_limit e rs ⊎ nodes_limit t e (level_values rs)
