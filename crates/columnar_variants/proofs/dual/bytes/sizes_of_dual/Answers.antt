use Rattle.columnar_variants.specs.DualLaws.{firsts_representable, seconds_representable}
use Rattle.columnar_variants.proofs.dual.bytes.sizes_of_dual.Goals as goal

pub sizes_of_two-requires-clause-left : goal.sizes_of_two-requires-clause-left
sizes_of_two-requires-clause-left g c = firsts_representable g.SC.Column.format g.TC.Column.format c.requires

pub sizes_of_two-requires-clause-right : goal.sizes_of_two-requires-clause-right
sizes_of_two-requires-clause-right g c = seconds_representable g.SC.Column.format g.TC.Column.format c.requires
