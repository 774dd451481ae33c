use Rattle.std.proofs.Common.{arith}
use Rattle.columnar_core.specs.Format.{slices_of}
use Rattle.columnar_core.specs.ByteLaws.{hold_bytes}
use Rattle.columnar_bytes.proofs.indexed.laws.holds_bytes.Goals as goal

pub returns : goal.returns
returns g c = hold_bytes (slices_of (g.S.Column.content c.args.item.now)) c.loop-i.i (omega (arith, c.slice_count-i-end.ensures)) c.loop-i.invariant
