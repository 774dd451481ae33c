use Rattle.std.proofs.Common.{◌-◌, take, drop}
use Rattle.columnar_core.specs.Change.{Took}
use Rattle.columnar_core.specs.Room.{Leaves}
use Rattle.columnar_core.specs.WordViews.{view_bytes}
use Rattle.columnar_sums.specs.Rooms.{held_top}
use Rattle.columnar_sums.specs.UnaryColumns.{unaries_format, unaries_content, owned_unaries, unary_room}
use Rattle.columnar_sums.proofs.unaries.grow.OwnedExtendFromViewed.extend_from_self.Given as goal

abbrev pub invariant-loop-i : goal.invariant-loop-i
invariant-loop-i l =
    record {
      took : Took unaries_format (owned_unaries l.initial.self) (owned_unaries l.self) (take (l.i - l.fn.range.start) (drop l.fn.range.start (unaries_format.rows (unaries_content view_bytes view_bytes view_bytes l.view))));
      left : Leaves (unary_room (owned_unaries l.initial.self) (held_top l.initial.self.bits)) (unary_room (owned_unaries l.self) (held_top l.self.bits)) (take (l.i - l.fn.range.start) (drop l.fn.range.start (unaries_format.rows (unaries_content view_bytes view_bytes view_bytes l.view))));
    }
