use Rattle.columnar_base.specs.ArrayLaws.{rest_first}
use Rattle.columnar_base.proofs.element.array.ArrayElement.same.Goals as goal

pub loop-i-init : goal.loop-i-init
loop-i-init g c = rest_first g.row.N g.met.T.Element.element c.args.self.now c.args.other.now c.told-self c.told-other
