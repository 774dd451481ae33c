use Rattle.std.proofs.Common.{◌+◌, ◌-◌, ◌≤◌, [], length, drop}
use Rattle.columnar_operators.specs.Merged.{merged}
use Rattle.columnar_operators.specs.Partly.{Pending}
use Rattle.columnar_operators.proofs.merge.merge_runs.Given as goal

abbrev pub invariant-loop-i : goal.invariant-loop-i
invariant-loop-i g l =
    let xs = g.V.Column.format.rows (g.V.Column.content l.one) in
    let ys = g.V.Column.format.rows (g.V.Column.content l.other) in
    record {
      first : l.i ≤ length xs;
      second : l.j ≤ length ys;
      pending : Pending g.C.Column.format (g.C.Column.room l.initial.column) (g.C.Column.room l.column) (g.C.Column.content l.initial.column) (g.C.Column.content l.column) [] (merged (drop l.i xs) (drop l.j ys)) (merged xs ys);
    }

abbrev pub decreases-loop-i : goal.decreases-loop-i
decreases-loop-i g l = (length (g.V.Column.format.rows (g.V.Column.content l.one)) - l.i) + (length (g.V.Column.format.rows (g.V.Column.content l.other)) - l.j)
