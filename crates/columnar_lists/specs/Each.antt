-- The rows of the items that an iterator determines.
use Rattle.std.specs.Prelude.{ℕ, List, map, ◌-◌}
use Rattle.std.specs.List.{range_with_len}
use Rattle.std.specs.declared.ops.Range.{Range}
use Rattle.columnar_base.specs.Row.{Row}
use Rattle.columnar_lists.specs.declared.each.Items.{Items}

-- the rows of the numbers from the start of a range up to its end
abbrev pub range_rows : (ℕ → Row) → Range ℕ → List Row
range_rows row s = map row (range_with_len s.start (s.end - s.start))

-- the rows of the items that a rule has yet to make
abbrev pub items_left : {F : Type 0} → (F → ℕ → Row) → Items F → List Row
items_left row s = map (row s.rule) (range_with_len s.next (s.end - s.next))
