use Rattle.std.proofs.Common.{arith}
use Rattle.columnar_core.specs.WordViews.{view_bytes}
use Rattle.columnar_bits.specs.BoolLaws.{two_words, word_there, bit_read}
use Rattle.columnar_bits.proofs.bools.bit_at.Goals as goal

pub word_or_tail-requires-clause-tail : goal.word_or_tail-requires-clause-tail
word_or_tail-requires-clause-tail c = omega (arith, two_words c.requires.sound)

pub word_or_tail-requires-clause-in_range : goal.word_or_tail-requires-clause-in_range
word_or_tail-requires-clause-in_range c = word_there c.args.index c.requires.sound (omega (arith, c.requires.in_range))

pub returns : goal.returns
returns c = bit_read (view_bytes c.args.values) (view_bytes c.args.tail) c.args.index c.word_or_tail.result c.requires.in_range c.word_or_tail.ensures
