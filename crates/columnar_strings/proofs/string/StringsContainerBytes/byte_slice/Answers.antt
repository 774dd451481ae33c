use Rattle.columnar_base.specs.TwoPartsLaws.{representable_left, representable_right}
use Rattle.columnar_lists.specs.ListLaws.{lists_two}
use Rattle.columnar_strings.proofs.string.StringsContainerBytes.byte_slice.Goals as goal

pub byte_slice_of_two-requires-clause-left : goal.byte_slice_of_two-requires-clause-left
byte_slice_of_two-requires-clause-left g c = representable_left (lists_two g.BC.Column.format g.VC.Column.format) c.requires.representable

pub byte_slice_of_two-requires-clause-right : goal.byte_slice_of_two-requires-clause-right
byte_slice_of_two-requires-clause-right g c = representable_right (lists_two g.BC.Column.format g.VC.Column.format) c.requires.representable
