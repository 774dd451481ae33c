use Rattle.columnar_sums.specs.ResultLaws.{oks_representable, errs_representable}
use Rattle.columnar_sums.proofs.result.bytes.ResultsStored.slice_count.Goals as goal

pub slice_count-requires : goal.slice_count-requires
slice_count-requires g c = oks_representable g.SC.Column.format g.TC.Column.format c.requires

pub slice_count-requires-2 : goal.slice_count-requires-2
slice_count-requires-2 g c = errs_representable g.SC.Column.format g.TC.Column.format c.requires
