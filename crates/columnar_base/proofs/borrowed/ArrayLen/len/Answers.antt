use Rattle.std.proofs.Common.{length, sym, ◌∙◌, ap}
use Rattle.columnar_base.specs.ElementLaws.{length-typed}
use Rattle.columnar_base.proofs.borrowed.ArrayLen.len.Goals as goal

pub returns : goal.returns
returns g c = c.count_of.ensures ∙ ap length c.as_slice.ensures ∙ sym (length-typed g.met.T.Element.element c.args.self.now)
