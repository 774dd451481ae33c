use Rattle.std.specs.Prelude.{map}
use Rattle.columnar_rows.specs.RowOrderLaws.{RestOrders}
use Rattle.columnar_rows.proofs.ordered.slices.compare_items.Given as goal

abbrev pub invariant-loop-i : goal.invariant-loop-i
invariant-loop-i g l = RestOrders (map g.T.Item.meaning l.left) (map g.T.Item.meaning l.right) l.i
