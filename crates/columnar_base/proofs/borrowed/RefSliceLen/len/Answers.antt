use Rattle.std.proofs.Common.{sym, ◌∙◌}
use Rattle.columnar_base.specs.ElementLaws.{length-typed}
use Rattle.columnar_base.proofs.borrowed.RefSliceLen.len.Goals as goal

pub returns : goal.returns
returns g c = c.count_of.ensures ∙ sym (length-typed g.met.T.Element.element c.args.self.now.now)
