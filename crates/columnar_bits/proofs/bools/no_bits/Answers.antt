use Rattle.columnar_bits.specs.BoolLaws.{bools_none, bools_sound}
use Rattle.columnar_bits.proofs.bools.no_bits.Goals as goal

pub returns-clause-sound : goal.returns-clause-sound
returns-clause-sound c = bools_sound (bools_none c.new.result.items c.tail_of.result c.new.ensures.items c.tail_of.ensures).0

pub returns-clause-bits : goal.returns-clause-bits
returns-clause-bits c = (bools_none c.new.result.items c.tail_of.result c.new.ensures.items c.tail_of.ensures).1
