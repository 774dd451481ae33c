use Rattle.columnar_core.specs.AppendedLaws.{appended_all}
use Rattle.columnar_core.proofs.vector.elements_of.Goals as goal

pub returns-clause-elements : goal.returns-clause-elements
returns-clause-elements g c = appended_all c.in_ok-column.ensures.items c.with_all.ensures.items
