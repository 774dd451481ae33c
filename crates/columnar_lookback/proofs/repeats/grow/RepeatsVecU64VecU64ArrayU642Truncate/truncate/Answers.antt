use Rattle.std.proofs.Common.{[]}
use Rattle.columnar_sums.specs.Options.{options_format}
use Rattle.columnar_lookback.specs.Repeats.{repeats_code}
use Rattle.columnar_lookback.specs.RecallLaws.{length-recall, recall_cut}
use Rattle.columnar_lookback.proofs.repeats.grow.RepeatsVecU64VecU64ArrayU642Truncate.truncate.Goals as goal

pub truncate-requires-clause-in_range : goal.truncate-requires-clause-in_range
truncate-requires-clause-in_range g c = rw (← length-recall repeats_code [] _) c.requires.in_range

pub returns-clause-cut : goal.returns-clause-cut
returns-clause-cut g c = recall_cut repeats_code g.TC.Column.format.kin (options_format g.TC.Column.format) c.requires.sound c.truncate.ensures.cut
