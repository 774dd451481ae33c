use Rattle.std.proofs.Common.{◌∙◌}
use Rattle.columnar_core.specs.NumberSliceLaws.{bytes_are}
use Rattle.columnar_core.proofs.byte_slice.sliced.U8Sliced.byte_slice.Goals as goal

pub returns-clause-bytes : goal.returns-clause-bytes
returns-clause-bytes c = c.of_bytes.ensures.bytes ∙ bytes_are c.args.items.now (λ i. (c.type_inv.items i).fits)
