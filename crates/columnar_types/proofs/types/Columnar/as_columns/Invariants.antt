use Rattle.std.proofs.Common.{map}
use Rattle.columnar_base.specs.Change.{Took}
use Rattle.columnar_types.proofs.types.Columnar.as_columns.Given as goal

abbrev pub invariant-loop-item : goal.invariant-loop-item
invariant-loop-item g l = Took g.Self.Container.Column.format (g.Self.Container.Column.content l.initial.column) (g.Self.Container.Column.content l.column) (map (λ x. g.Self.Item.meaning x.now) l.yielded)
