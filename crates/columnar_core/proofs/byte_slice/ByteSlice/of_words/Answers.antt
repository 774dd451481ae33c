use Rattle.std.proofs.Common.{refl, w64}
use Rattle.columnar_core.specs.NumberSliceLaws.{counted_unsigned}
use Rattle.columnar_core.proofs.byte_slice.ByteSlice.of_words.Goals as goal

pub invariant_of-result : goal.invariant_of-result
invariant_of-result c = record { counted = counted_unsigned w64 c.args.words.now _ refl }
