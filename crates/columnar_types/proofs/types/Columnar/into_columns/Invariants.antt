use Rattle.std.proofs.Common.{map}
use Rattle.columnar_base.specs.Change.{Took}
use Rattle.columnar_types.proofs.types.Columnar.into_columns.Given as goal

abbrev pub invariant-loop-value : goal.invariant-loop-value
invariant-loop-value g l = Took g.Self.Container.Column.format (g.Self.Container.Column.content l.initial.column) (g.Self.Container.Column.content l.column) (map g.Self.Item.meaning l.yielded)
