use Rattle.columnar_core.specs.TwoPartsLaws.{representable_right}
use Rattle.columnar_sums.specs.OptionLaws.{options_two}
use Rattle.columnar_sums.proofs.option.bytes.OptionsStored.element_sizes.Goals as goal

pub sizes_of_two-requires-clause-right : goal.sizes_of_two-requires-clause-right
sizes_of_two-requires-clause-right g c = representable_right (options_two g.TC.Column.format) c.requires
