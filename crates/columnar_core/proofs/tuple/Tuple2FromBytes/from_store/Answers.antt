use Rattle.std.proofs.Common.{refl, arith}
use Rattle.columnar_base.specs.TwoPartsLaws.{representable_left, representable_right}
use Rattle.columnar_base.specs.TupleLaws.{pair_two}
use Rattle.columnar_core.proofs.tuple.Tuple2FromBytes.from_store.Goals as goal

pub from_store-first-requires : goal.from_store-first-requires
from_store-first-requires g c κs = ((refl, tt), (representable_left (pair_two g.A.Column.format g.B.Column.format) c.requires.representable, omega (arith, c.requires.room)))

pub from_store-second-requires : goal.from_store-second-requires
from_store-second-requires g c κs = ((refl, tt), (representable_right (pair_two g.A.Column.format g.B.Column.format) c.requires.representable, omega (arith, c.requires.room, c.from_store-first.ensures.next)))
