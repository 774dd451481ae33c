use Rattle.columnar_base.specs.TwoPartsLaws.{representable_left, representable_right}
use Rattle.columnar_base.specs.TupleLaws.{pair_two}
use Rattle.columnar_primitive.proofs.durations.DurationsContainerBytes.byte_slice.Goals as goal

pub byte_slice_of_two-requires-clause-left : goal.byte_slice_of_two-requires-clause-left
byte_slice_of_two-requires-clause-left g c = representable_left (pair_two g.SC.Column.format g.NC.Column.format) c.requires.representable

pub byte_slice_of_two-requires-clause-right : goal.byte_slice_of_two-requires-clause-right
byte_slice_of_two-requires-clause-right g c = representable_right (pair_two g.SC.Column.format g.NC.Column.format) c.requires.representable
