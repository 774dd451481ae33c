use Rattle.columnar_core.specs.TwoPartsLaws.{representable_right}
use Rattle.columnar_sums.specs.OptionLaws.{options_two}
use Rattle.columnar_sums.proofs.option.bytes.OptionsVecU64VecU64ArrayU642ContainerBytes.byte_slice.Goals as goal

pub byte_slice_of_two-requires-clause-right : goal.byte_slice_of_two-requires-clause-right
byte_slice_of_two-requires-clause-right g c = representable_right (options_two g.TC.Column.format) c.requires.representable
