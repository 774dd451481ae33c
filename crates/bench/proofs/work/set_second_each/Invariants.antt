use Rattle.columnar_base.specs.Format.{IsSound}
use Rattle.bench.proofs.work.set_second_each.Given as goal

abbrev pub invariant-loop-place : goal.invariant-loop-place
invariant-loop-place g l = IsSound g.C.Column.format (g.C.Column.content l.column)
