use Rattle.std.proofs.Common.{sym}
use Rattle.columnar_base.specs.ElementLaws.{length-elements, length-typed}
use Rattle.columnar_base.proofs.view.ViewLen.len.Goals as goal

pub returns-in-Typed : goal.returns-in-Typed
returns-in-Typed g c = rw c.in-Typed.is (sym (length-typed g.met.T.Element.element c.in-Typed.items.now))

pub returns-in-Bytes : goal.returns-in-Bytes
returns-in-Bytes g c = rw (c.in-Bytes.is, c.count_in.ensures) (sym (length-elements g.T.Element.size g.T.Element.row_of c.in-Bytes.bytes.now))
