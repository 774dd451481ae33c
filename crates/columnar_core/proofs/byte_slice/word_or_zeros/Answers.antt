use Rattle.std.proofs.Common.{arith}
use Rattle.columnar_core.specs.NumberSliceLaws.{bytes_are}
use Rattle.columnar_core.proofs.byte_slice.word_or_zeros.Goals as goal

pub word_of-requires-clause-short : goal.word_of-requires-clause-short
word_of-requires-clause-short c = rw (← (bytes_are c.args.bytes.now (λ i. (c.type_inv.bytes i).fits))) (omega arith)

pub word_of-requires-clause-in_range : goal.word_of-requires-clause-in_range
word_of-requires-clause-in_range c = rw (← (bytes_are c.args.bytes.now (λ i. (c.type_inv.bytes i).fits))) c.requires

pub returns-else-bytes-index-ge8 : goal.returns-else-bytes-index-ge8
returns-else-bytes-index-ge8 c = rw (← (bytes_are c.args.bytes.now (λ i. (c.type_inv.bytes i).fits))) at c.word_of.ensures
