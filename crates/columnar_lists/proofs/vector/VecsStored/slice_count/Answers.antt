use Rattle.columnar_base.specs.TwoPartsLaws.{representable_left, representable_right}
use Rattle.columnar_lists.specs.ListLaws.{lists_two}
use Rattle.columnar_lists.proofs.vector.VecsStored.slice_count.Goals as goal

pub slice_count-requires : goal.slice_count-requires
slice_count-requires g c = representable_left (lists_two g.BC.Column.format g.TC.Column.format) c.requires

pub slice_count-requires-2 : goal.slice_count-requires-2
slice_count-requires-2 g c = representable_right (lists_two g.BC.Column.format g.TC.Column.format) c.requires
