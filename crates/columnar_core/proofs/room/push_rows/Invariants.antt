use Rattle.std.proofs.Common.{◌-◌, take, drop}
use Rattle.columnar_base.specs.Format.{IsSound}
use Rattle.columnar_base.specs.Room.{Leaves}
use Rattle.columnar_core.proofs.room.push_rows.Given as goal

abbrev pub invariant-loop-i : goal.invariant-loop-i
invariant-loop-i g l =
    record {
      sound : IsSound g.C.Column.format (g.C.Column.content l.column);
      left : Leaves (g.C.Column.room l.initial.column) (g.C.Column.room l.column) (take (l.i - 0) (drop 0 (g.V.Column.format.rows (g.V.Column.content l.fn.view))));
    }
