use Rattle.std.proofs.Common.{refl}
use Rattle.columnar_base.specs.TwoPartsLaws.{representable_left, representable_right}
use Rattle.columnar_lists.specs.ListLaws.{lists_two}
use Rattle.columnar_strings.proofs.string.StringsAsBytes.get_byte_slice.Goals as goal

pub slice_of_two-requires : goal.slice_of_two-requires
slice_of_two-requires g c κs = ((refl, tt), (representable_left (lists_two g.BC.Column.format g.VC.Column.format) c.requires.representable, (representable_right (lists_two g.BC.Column.format g.VC.Column.format) c.requires.representable, c.requires.in_range)))
