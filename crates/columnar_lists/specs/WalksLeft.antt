-- The remaining lists of an iteration.
use Rattle.std.specs.Prelude.{List, drop}
use Rattle.columnar_base.specs.Row.{Row}
use Rattle.columnar_base.specs.Format.{both}
use Rattle.columnar_lists.specs.Lists.{lists_format}
use Rattle.columnar_lists.specs.declared.walk.ListIter.{ListIter}

-- the lists from the iterator's index on
abbrev pub lists_left : {V W : Type 0} {values bounds : _} → ListIter V W values bounds → List Row
lists_left {values = values} {bounds = bounds} it = drop it.ranges.index ((lists_format bounds.format values.format).rows (both (bounds.content it.bounds) (values.content it.values)))
