use Rattle.std.proofs.Common.{◌≡◌, ◌+◌, ◌-◌, ◌≤◌, ◌∷◌, take, drop}
use Rattle.std.specs.Prelude.{slice_get, Some}
use Rattle.columnar_base.specs.Change.{Took}
use Rattle.columnar_base.specs.Room.{Leaves}
use Rattle.columnar_core.specs.Bounds.{numbers, shifted}
use Rattle.columnar_core.proofs.offsets.push_shifted.Given as goal

abbrev pub invariant-loop-i : goal.invariant-loop-i
invariant-loop-i g l =
    record {
      took : Took g.BC.Column.format (g.BC.Column.content l.initial.bounds) (g.BC.Column.content l.bounds) (take (l.i - l.fn.range.start) (drop l.fn.range.start (shifted l.fn.lower l.fn.start (numbers (g.W.Column.format.rows (g.W.Column.content l.fn.view))))));
      left : Leaves (g.BC.Column.room l.initial.bounds) (g.BC.Column.room l.bounds) (take (l.i - l.fn.range.start) (drop l.fn.range.start (shifted l.fn.lower l.fn.start (numbers (g.W.Column.format.rows (g.W.Column.content l.fn.view))))));
      turns : l.tally.turns ≤ l.initial.tally.turns + (l.i - l.fn.range.start);
      last : slice_get (0 ∷ numbers (g.W.Column.format.rows (g.W.Column.content l.fn.view))) l.i ≡ Some l.last;
    }
