use Rattle.columnar_base.specs.TwoPartsLaws.{representable_left, representable_right}
use Rattle.columnar_base.specs.TupleLaws.{pair_two}
use Rattle.columnar_core.proofs.tuple.Tuple2ContainerBytes.byte_slice.Goals as goal

pub byte_slice_of_two-requires-clause-left : goal.byte_slice_of_two-requires-clause-left
byte_slice_of_two-requires-clause-left g c = representable_left (pair_two g.A.Column.format g.B.Column.format) c.requires.representable

pub byte_slice_of_two-requires-clause-right : goal.byte_slice_of_two-requires-clause-right
byte_slice_of_two-requires-clause-right g c = representable_right (pair_two g.A.Column.format g.B.Column.format) c.requires.representable
