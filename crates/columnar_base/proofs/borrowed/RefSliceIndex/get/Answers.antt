use Rattle.columnar_base.specs.ElementLaws.{length-typed, row_typed}
use Rattle.columnar_base.proofs.borrowed.RefSliceIndex.get.Goals as goal

pub shared_at-requires : goal.shared_at-requires
shared_at-requires g c = rw (length-typed g.met.T.Element.element c.args.self.now.now) at c.requires.in_range

pub returns-clause-row : goal.returns-clause-row
returns-clause-row g c = row_typed g.met.T.Element.element c.args.self.now.now c.args.index c.shared_at.result.now c.shared_at.ensures
