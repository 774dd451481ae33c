use Rattle.columnar_base.specs.ElementLaws.{elements_took}
use Rattle.columnar_base.proofs.vector.VecAnyPushRefAnyImplce0544b1.push_slice.Goals as goal

pub returns-clause-ok : goal.returns-clause-ok
returns-clause-ok g c = rw c.in_ok-extend_from_slice.ensures.items (elements_took g.met.T.Element.element c.args.self.now.items c.args.items.now)
