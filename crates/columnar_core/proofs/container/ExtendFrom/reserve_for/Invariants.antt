use Rattle.std.specs.Prelude.{All}
use Rattle.columnar_base.specs.Format.{IsSound}
use Rattle.columnar_base.specs.Room.{rows_of_all}
use Rattle.columnar_core.proofs.container.ExtendFrom.reserve_for.Given as goal

abbrev pub invariant-loop-view : goal.invariant-loop-view
invariant-loop-view g l = g.Self.Reserve.reserves → All (λ v. IsSound g.V.Column.format (g.V.Column.content v)) l.yielded → g.Self.Reserve.covers l.room (rows_of_all g.V.Column.format g.V.Column.content l.yielded)
