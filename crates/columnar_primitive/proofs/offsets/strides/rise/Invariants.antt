use Rattle.std.proofs.Common.{◌≡◌, ◌+◌, ◌≤◌, drop}
use Rattle.columnar_core.specs.Format.{slice}
use Rattle.columnar_core.specs.Bounds.{rises, numbers}
use Rattle.columnar_primitive.specs.Stride.{bounds_rows}
use Rattle.columnar_primitive.proofs.offsets.strides.rise.Given as goal

abbrev pub invariant-loop-i : goal.invariant-loop-i
invariant-loop-i g l =
    (rises l.fn.first (numbers (bounds_rows (slice (g.BC.Words.bytes l.bounds)))) l.fn.«end» ≡ rises l.last (drop l.i (numbers (bounds_rows (slice (g.BC.Words.bytes l.bounds))))) l.fn.«end») ×
    (l.tally.turns ≤ l.initial.tally.turns + l.i)
