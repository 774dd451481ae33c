use Rattle.std.proofs.Common.{◌≡◌, ◌+◌, ◌-◌, ◌≤◌, ◌∷◌, take, drop}
use Rattle.std.specs.Prelude.{slice_get, Some}
use Rattle.columnar_core.specs.Change.{Took}
use Rattle.columnar_core.specs.Bounds.{numbers, shifted}
use Rattle.columnar_primitive.specs.Held.{counted}
use Rattle.columnar_primitive.specs.Fixed.{fixed_format}
use Rattle.columnar_primitive.proofs.offsets.fixeds.FixedsU64ExtendShifted.extend_shifted_tallied.Given as goal

abbrev pub invariant-loop-i : goal.invariant-loop-i
invariant-loop-i g l =
    record {
      took : Took (fixed_format g.row.K) (counted l.fn.self.count) (counted l.self.count) (take (l.i - l.fn.range.start) (drop l.fn.range.start (shifted l.fn.lower l.fn.start (numbers (g.W.Column.format.rows (g.W.Column.content l.fn.view))))));
      turns : l.tally.turns ≤ l.initial.tally.turns + (l.i - l.fn.range.start);
      last : slice_get (0 ∷ numbers (g.W.Column.format.rows (g.W.Column.content l.fn.view))) l.i ≡ Some l.last;
    }
