use Rattle.columnar_base.specs.TwoPartsLaws.{representable_left, representable_right}
use Rattle.columnar_lists.specs.ListLaws.{lists_two}
use Rattle.columnar_lists.proofs.vector.VecsStored.element_sizes.Goals as goal

pub sizes_of_two-requires-clause-left : goal.sizes_of_two-requires-clause-left
sizes_of_two-requires-clause-left g c = representable_left (lists_two g.BC.Column.format g.TC.Column.format) c.requires

pub sizes_of_two-requires-clause-right : goal.sizes_of_two-requires-clause-right
sizes_of_two-requires-clause-right g c = representable_right (lists_two g.BC.Column.format g.TC.Column.format) c.requires
