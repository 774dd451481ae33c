use Rattle.columnar_base.specs.ElementLaws.{length-typed, row_typed}
use Rattle.columnar_base.proofs.borrowed.RefVecIndex.get.Goals as goal

pub shared_at-requires : goal.shared_at-requires
shared_at-requires g c = rw c.as_slice.ensures.value (rw (length-typed g.met.T.Element.element c.args.self.now.now.items) at c.requires.in_range)

pub returns-clause-row : goal.returns-clause-row
returns-clause-row g c = row_typed g.met.T.Element.element c.args.self.now.now.items c.args.index c.shared_at.result.now (rw c.as_slice.ensures.value at c.shared_at.ensures)
