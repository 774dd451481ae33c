use Rattle.columnar_base.specs.TwoPartsLaws.{representable_left, representable_right}
use Rattle.columnar_base.specs.TupleLaws.{pair_two}
use Rattle.columnar_primitive.proofs.durations.DurationsStored.element_sizes.Goals as goal

pub sizes_of_two-requires-clause-left : goal.sizes_of_two-requires-clause-left
sizes_of_two-requires-clause-left g c = representable_left (pair_two g.SC.Column.format g.NC.Column.format) c.requires

pub sizes_of_two-requires-clause-right : goal.sizes_of_two-requires-clause-right
sizes_of_two-requires-clause-right g c = representable_right (pair_two g.SC.Column.format g.NC.Column.format) c.requires
