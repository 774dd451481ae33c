use Rattle.std.proofs.Common.{refl, arith}
use Rattle.columnar_base.specs.TwoPartsLaws.{representable_left, representable_right}
use Rattle.columnar_base.specs.TupleLaws.{pair_two}
use Rattle.columnar_primitive.proofs.durations.DurationsFromBytes.from_store.Goals as goal

pub from_store-seconds-requires : goal.from_store-seconds-requires
from_store-seconds-requires g c κs = ((refl, tt), (representable_left (pair_two g.SC.Column.format g.NC.Column.format) c.requires.representable, omega (arith, c.requires.room)))

pub from_store-nanoseconds-requires : goal.from_store-nanoseconds-requires
from_store-nanoseconds-requires g c κs = ((refl, tt), (representable_right (pair_two g.SC.Column.format g.NC.Column.format) c.requires.representable, omega (arith, c.requires.room, c.from_store-seconds.ensures.next)))
