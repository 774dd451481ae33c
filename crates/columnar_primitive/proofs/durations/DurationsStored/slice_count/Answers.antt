use Rattle.columnar_base.specs.TwoPartsLaws.{representable_left, representable_right}
use Rattle.columnar_base.specs.TupleLaws.{pair_two}
use Rattle.columnar_primitive.proofs.durations.DurationsStored.slice_count.Goals as goal

pub slice_count-requires : goal.slice_count-requires
slice_count-requires g c = representable_left (pair_two g.SC.Column.format g.NC.Column.format) c.requires

pub slice_count-requires-2 : goal.slice_count-requires-2
slice_count-requires-2 g c = representable_right (pair_two g.SC.Column.format g.NC.Column.format) c.requires
