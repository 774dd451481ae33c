use Rattle.std.proofs.Common.{refl}
use Rattle.columnar_base.specs.TwoPartsLaws.{representable_left, representable_right}
use Rattle.columnar_base.specs.TupleLaws.{pair_two}
use Rattle.columnar_primitive.proofs.durations.DurationsAsBytes.get_byte_slice.Goals as goal

pub slice_of_two-requires : goal.slice_of_two-requires
slice_of_two-requires g c κs = ((refl, tt), (representable_left (pair_two g.SC.Column.format g.NC.Column.format) c.requires.representable, (representable_right (pair_two g.SC.Column.format g.NC.Column.format) c.requires.representable, c.requires.in_range)))
