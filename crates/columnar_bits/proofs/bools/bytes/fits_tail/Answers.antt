use Rattle.columnar_bits.specs.BoolByteLaws.{fits_is}
use Rattle.columnar_bits.proofs.bools.bytes.fits_tail.Goals as goal

pub returns-then-count-lt64 : goal.returns-then-count-lt64
returns-then-count-lt64 c = fits_is c.args.word c.args.count c.if-count-lt64.true
