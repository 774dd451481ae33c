use Rattle.std.proofs.Common.{length, sym, ◌∙◌, ap}
use Rattle.columnar_base.specs.ElementLaws.{length-typed}
use Rattle.columnar_base.proofs.vector.VecLen.len.Goals as goal

pub returns : goal.returns
returns g c = ap length c.as_slice.ensures.value ∙ sym (length-typed g.met.T.Element.element c.args.self.now.items)
