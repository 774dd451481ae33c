use Rattle.columnar_rows.specs.RowHashLaws.{RestFeeds}
use Rattle.columnar_rows.proofs.ordered.hash_rows_of.Given as goal

abbrev pub invariant-loop-i : goal.invariant-loop-i
invariant-loop-i g l = RestFeeds g.H.Hasher.write g.S.Ref.OrderedRow.row_input (g.S.Column.format.rows (g.S.Column.content l.column)) l.initial.state l.i l.state
