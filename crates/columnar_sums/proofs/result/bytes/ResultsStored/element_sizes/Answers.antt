use Rattle.columnar_sums.specs.ResultLaws.{oks_representable, errs_representable}
use Rattle.columnar_sums.proofs.result.bytes.ResultsStored.element_sizes.Goals as goal

pub sizes_of_two-requires-clause-left : goal.sizes_of_two-requires-clause-left
sizes_of_two-requires-clause-left g c = oks_representable g.SC.Column.format g.TC.Column.format c.requires

pub sizes_of_two-requires-clause-right : goal.sizes_of_two-requires-clause-right
sizes_of_two-requires-clause-right g c = errs_representable g.SC.Column.format g.TC.Column.format c.requires
