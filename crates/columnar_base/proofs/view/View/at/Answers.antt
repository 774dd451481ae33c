use Rattle.columnar_base.specs.ElementLaws.{length-typed, row_typed, row_read, within_bytes}
use Rattle.columnar_base.proofs.view.View.at.Goals as goal

pub element_at-requires : goal.element_at-requires
element_at-requires g c = rw (length-typed g.met.T.Element.element c.in-Typed.items.now) at (rw c.in-Typed.is at c.requires)

pub element_in-requires : goal.element_in-requires
element_in-requires g c = within_bytes g.T.Element.size g.T.Element.row_of c.in-Bytes.bytes.now c.args.index (rw c.in-Bytes.is at c.requires)

pub returns-in-Typed : goal.returns-in-Typed
returns-in-Typed g c = rw c.in-Typed.is (row_typed g.met.T.Element.element c.in-Typed.items.now c.args.index c.element_at.result c.element_at.ensures)

pub returns-in-Bytes : goal.returns-in-Bytes
returns-in-Bytes g c = rw c.in-Bytes.is (row_read g.met.T.Element.element c.in-Bytes.bytes.now c.args.index c.element_in.result (rw c.in-Bytes.is at c.requires) c.element_in.ensures)
