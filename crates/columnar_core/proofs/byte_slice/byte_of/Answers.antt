use Rattle.columnar_core.specs.NumberSliceLaws.{byte_at_of, no_byte_of}
use Rattle.columnar_core.proofs.byte_slice.byte_of.Goals as goal

pub returns-then-index-items : goal.returns-then-index-items
returns-then-index-items g c = byte_at_of g.met.T.Element.element c.args.items.now c.args.at c.size-size.result c.index-items-index.result c.byte.result g.met.T.Primitive.small c.size-size.ensures c.if-index-items.true c.index-items-index.is c.byte.ensures

pub returns-else-index-items : goal.returns-else-index-items
returns-else-index-items g c = no_byte_of g.met.T.Element.element c.args.items.now c.args.at c.size-size.result g.met.T.Primitive.small c.size-size.ensures c.if-index-items.false
