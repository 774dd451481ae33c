use Rattle.std.proofs.Common.{arith}
use Rattle.columnar_core.specs.WordViews.{view_bytes}
use Rattle.columnar_core.specs.WordViewLaws.{length-words_in}
use Rattle.columnar_bits.proofs.bools.tail_parts.Goals as goal

pub word_at-requires : goal.word_at-requires
word_at-requires c = omega (arith, c.requires, length-words_in (view_bytes c.args.tail))

pub word_at-requires-2 : goal.word_at-requires-2
word_at-requires-2 c = omega (arith, c.requires, length-words_in (view_bytes c.args.tail))
