-- The rows that columns of lists deny.
use Rattle.std.specs.Prelude.{◌⊎◌}
use Rattle.columnar_base.specs.May.{Limit}
use Rattle.columnar_lists.specs.Lists.{ends, joined}

-- The bounds deny the ends of the lists, counted over all their items, or the values deny all their items together.
abbrev pub lists_limit : Limit → Limit → Limit
lists_limit b t e rs = b e (ends 0 rs) ⊎ t e (joined rs)
