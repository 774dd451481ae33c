use Rattle.std.proofs.Common.{drop}
use Rattle.columnar_operators.specs.Partly.{AtRun}
use Rattle.columnar_operators.specs.Picks.{rows_at}
use Rattle.columnar_operators.proofs.select.take_runs.Given as goal

abbrev pub invariant-loop-i : goal.invariant-loop-i
invariant-loop-i g l =
    let rows = g.V.Column.format.rows (g.V.Column.content l.view) in
    AtRun g.C.Column.format (g.C.Column.room l.initial.column) (g.C.Column.room l.column) rows (g.C.Column.content l.initial.column) (g.C.Column.content l.column) l.start l.«end» (rows_at rows (drop l.i-index l.indices)) (rows_at rows l.indices)
