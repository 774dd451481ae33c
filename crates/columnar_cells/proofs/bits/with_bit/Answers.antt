use Rattle.columnar_cells.specs.BitLaws.{set_true, set_false, set_below}
use Rattle.columnar_cells.proofs.bits.with_bit.Goals as goal

pub returns-then-item-clause-bit : goal.returns-then-item-clause-bit
returns-then-item-clause-bit c = rw c.if-item.true (set_true c.args.word c.args.at c.requires)

pub returns-then-item-clause-below : goal.returns-then-item-clause-below
returns-then-item-clause-below c = λ n l m _. set_below c.args.word c.args.at n c.requires l m

pub returns-else-item-clause-bit : goal.returns-else-item-clause-bit
returns-else-item-clause-bit c = rw c.if-item.false (set_false c.args.word c.args.at c.requires)
