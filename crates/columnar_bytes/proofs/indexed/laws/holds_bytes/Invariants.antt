use Rattle.std.proofs.Common.{ℕ, ◌<◌, get_or, []}
use Rattle.columnar_core.specs.Format.{slices_of}
use Rattle.columnar_core.specs.Bytes.{AreBytes}
use Rattle.columnar_bytes.proofs.indexed.laws.holds_bytes.Given as goal

abbrev pub invariant-loop-i : goal.invariant-loop-i
invariant-loop-i g l = (k : ℕ) → k < l.i → AreBytes (get_or (slices_of (g.S.Column.content l.item)) k [])
