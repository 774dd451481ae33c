use Rattle.std.proofs.Common.{drop}
use Rattle.columnar_operators.specs.Merged.{merged}
use Rattle.columnar_operators.specs.MergedLaws.{MergedUpTo}
use Rattle.columnar_operators.proofs.merge.end_of_first.Given as goal

abbrev pub invariant-loop-end : goal.invariant-loop-end
invariant-loop-end g l =
    let xs = g.V.Column.format.rows (g.V.Column.content l.one) in
    let ys = g.V.Column.format.rows (g.V.Column.content l.other) in
    MergedUpTo xs l.i l.«end» (merged (drop l.i xs) (drop l.j ys)) (merged (drop l.«end» xs) (drop l.j ys))
