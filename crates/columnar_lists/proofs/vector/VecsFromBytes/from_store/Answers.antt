use Rattle.std.proofs.Common.{arith, refl}
use Rattle.columnar_base.specs.TwoPartsLaws.{representable_left, representable_right}
use Rattle.columnar_lists.specs.ListLaws.{lists_two}
use Rattle.columnar_lists.proofs.vector.VecsFromBytes.from_store.Goals as goal

pub from_store-bounds-requires : goal.from_store-bounds-requires
from_store-bounds-requires g c κs = ((refl, tt), (representable_left (lists_two g.BC.Column.format g.TC.Column.format) c.requires.representable, omega (arith, c.requires.room)))

pub from_store-values-requires : goal.from_store-values-requires
from_store-values-requires g c κs = ((refl, tt), (representable_right (lists_two g.BC.Column.format g.TC.Column.format) c.requires.representable, omega (arith, c.requires.room, c.from_store-bounds.ensures.next)))
