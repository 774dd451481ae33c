use Rattle.columnar_bits.specs.BoolByteLaws.{two_read}
use Rattle.columnar_bits.proofs.bools.bytes.two_words.Goals as goal

pub returns : goal.returns
returns c = two_read c.args.bytes.now c.element_in-word.result c.element_in-count.result c.requires c.element_in-word.ensures c.element_in-count.ensures
