use Rattle.columnar_base.specs.ElementLaws.{elements_pushed}
use Rattle.columnar_base.proofs.vector.VecAnyPushRefAnyImpl19605bbd.push.Goals as goal

pub returns-clause-ok : goal.returns-clause-ok
returns-clause-ok g c = rw c.in_ok-push.ensures.items (elements_pushed g.met.T.Element.element c.args.self.now.items c.args.item.now)
