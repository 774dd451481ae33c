use Rattle.columnar_bits.specs.BoolLaws.{tail_made}
use Rattle.columnar_bits.proofs.bools.tail_of.Goals as goal

pub returns : goal.returns
returns c = tail_made c.args.word c.args.count c.ranges.word.fits c.ranges.count.fits
