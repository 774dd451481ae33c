use Rattle.columnar_variants.specs.DualLaws.{firsts_representable, seconds_representable}
use Rattle.columnar_variants.proofs.dual.bytes.count_dual.Goals as goal

pub slice_count-requires : goal.slice_count-requires
slice_count-requires g c = firsts_representable g.SC.Column.format g.TC.Column.format c.requires

pub slice_count-requires-2 : goal.slice_count-requires-2
slice_count-requires-2 g c = seconds_representable g.SC.Column.format g.TC.Column.format c.requires
