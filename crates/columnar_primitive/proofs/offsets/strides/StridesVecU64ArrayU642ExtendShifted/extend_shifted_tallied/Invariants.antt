use Rattle.std.proofs.Common.{◌≡◌, ◌+◌, ◌-◌, ◌≤◌, ◌∷◌, take, drop}
use Rattle.std.specs.Prelude.{slice_get, Some}
use Rattle.columnar_core.specs.Change.{Took}
use Rattle.columnar_core.specs.Bounds.{numbers, shifted}
use Rattle.columnar_primitive.specs.Stride.{strides_format, head_and_bounds, head_extended, bounds_extended}
use Rattle.columnar_primitive.proofs.offsets.strides.StridesVecU64ArrayU642ExtendShifted.extend_shifted_tallied.Given as goal

abbrev pub invariant-loop-i : goal.invariant-loop-i
invariant-loop-i g l =
    let moved = take (l.i - l.fn.range.start) (drop l.fn.range.start (shifted l.fn.lower l.fn.start (numbers (g.W.Column.format.rows (g.W.Column.content l.fn.view))))) in
    record {
      took : Took strides_format (head_and_bounds l.fn.self.head l.fn.self.bounds.items) (head_and_bounds l.self.head l.self.bounds.items) moved;
      front : take l.count_before l.self.bounds.items ≡ l.fn.self.bounds.items;
      head : l.self.head ≡ head_extended l.fn.self.head l.fn.self.bounds.items (numbers moved);
      bounds : l.self.bounds.items ≡ bounds_extended l.fn.self.head l.fn.self.bounds.items (numbers moved);
      turns : l.tally.turns ≤ l.initial.tally.turns + (l.i - l.fn.range.start);
      last : slice_get (0 ∷ numbers (g.W.Column.format.rows (g.W.Column.content l.fn.view))) l.i ≡ Some l.last;
    }
