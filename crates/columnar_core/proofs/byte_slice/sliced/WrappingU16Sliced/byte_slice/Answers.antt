use Rattle.std.proofs.Common.{refl, w16}
use Rattle.columnar_core.specs.NumberSliceLaws.{counted_wrapping_unsigned}
use Rattle.columnar_core.proofs.byte_slice.sliced.WrappingU16Sliced.byte_slice.Goals as goal

pub invariant_of-result : goal.invariant_of-result
invariant_of-result c = record { counted = counted_wrapping_unsigned w16 c.args.items.now _ refl }
