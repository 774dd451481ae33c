use Rattle.std.specs.Prelude.{map}
use Rattle.columnar_base.specs.SameRows.{RestDecides}
use Rattle.columnar_rows.proofs.ordered.slices.same_items.Given as goal

abbrev pub invariant-loop-i : goal.invariant-loop-i
invariant-loop-i g l = RestDecides (map g.T.Item.meaning l.left) (map g.T.Item.meaning l.right) l.i
