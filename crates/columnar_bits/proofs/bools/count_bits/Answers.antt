use Rattle.std.proofs.Common.{arith}
use Rattle.columnar_core.specs.WordViews.{view_bytes}
use Rattle.columnar_bits.specs.BoolLaws.{two_words, bits_length}
use Rattle.columnar_bits.proofs.bools.count_bits.Goals as goal

pub word_at-requires : goal.word_at-requires
word_at-requires c = omega (arith, two_words c.requires)

pub returns : goal.returns
returns c = omega (arith, bits_length (view_bytes c.args.values) (view_bytes c.args.tail), c.word_count.ensures.count, c.word_at.ensures)
