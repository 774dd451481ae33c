use Rattle.std.proofs.Common.{◌-◌, map, take, drop}
use Rattle.columnar_base.specs.Change.{Took}
use Rattle.columnar_base.specs.Room.{Leaves}
use Rattle.columnar_base.proofs.traits.PushRef.push_slice.Given as goal

abbrev pub invariant-loop-i : goal.invariant-loop-i
invariant-loop-i g l = Took g.Self.Column.format (g.Self.Column.content l.initial.self) (g.Self.Column.content l.self) (take (l.i - 0) (drop 0 (map g.T.Item.meaning l.fn.items))) × Leaves (g.Self.Column.room l.initial.self) (g.Self.Column.room l.self) (take (l.i - 0) (drop 0 (map g.T.Item.meaning l.fn.items)))
