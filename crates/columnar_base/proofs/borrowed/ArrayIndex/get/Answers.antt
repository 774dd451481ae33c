use Rattle.columnar_base.specs.ElementLaws.{length-typed, row_typed}
use Rattle.columnar_base.proofs.borrowed.ArrayIndex.get.Goals as goal

pub element_at-requires : goal.element_at-requires
element_at-requires g c = rw c.as_slice.ensures (rw (length-typed g.met.T.Element.element c.args.self.now) at c.requires.in_range)

pub returns-clause-row : goal.returns-clause-row
returns-clause-row g c = row_typed g.met.T.Element.element c.args.self.now c.args.index c.element_at.result (rw c.as_slice.ensures at c.element_at.ensures)
