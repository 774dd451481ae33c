use Rattle.std.proofs.Common.{drop}
use Rattle.columnar_operators.specs.Partly.{AtRun}
use Rattle.columnar_operators.specs.Picks.{chosen}
use Rattle.columnar_operators.proofs.select.filter_runs.Given as goal

abbrev pub invariant-loop-i : goal.invariant-loop-i
invariant-loop-i g l =
    let rows = g.V.Column.format.rows (g.V.Column.content l.view) in
    let bits = g.B.Column.format.rows (g.B.Column.content l.bits) in
    AtRun g.C.Column.format (g.C.Column.room l.initial.column) (g.C.Column.room l.column) rows (g.C.Column.content l.initial.column) (g.C.Column.content l.column) l.start l.i (chosen (drop l.i rows) (drop l.i bits)) (chosen rows bits)
