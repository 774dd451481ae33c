use Rattle.std.proofs.Common.{refl, w32}
use Rattle.columnar_core.specs.NumberSliceLaws.{counted_signed}
use Rattle.columnar_core.proofs.byte_slice.sliced.I32Sliced.byte_slice.Goals as goal

pub invariant_of-result : goal.invariant_of-result
invariant_of-result c = record { counted = counted_signed w32 c.args.items.now _ refl }
