use Rattle.std.specs.Prelude.{map}
use Rattle.columnar_rows.specs.RowHashLaws.{RestFeeds}
use Rattle.columnar_rows.proofs.ordered.slices.hash_items.Given as goal

abbrev pub invariant-loop-i : goal.invariant-loop-i
invariant-loop-i g l = RestFeeds g.H.Hasher.write g.T.OrderedRow.row_input (map g.T.Item.meaning l.items) l.initial.state l.i l.state
