use Rattle.std.proofs.Common.{map}
use Rattle.columnar_base.specs.Change.{Took}
use Rattle.columnar_base.specs.Room.{Leaves}
use Rattle.columnar_base.proofs.traits.Push.extend.Given as goal

abbrev pub invariant-loop-item : goal.invariant-loop-item
invariant-loop-item g l = Took g.Self.Column.format (g.Self.Column.content l.initial.self) (g.Self.Column.content l.self) (map g.T.Item.meaning l.yielded) × Leaves (g.Self.Column.room l.initial.self) (g.Self.Column.room l.self) (map g.T.Item.meaning l.yielded)
