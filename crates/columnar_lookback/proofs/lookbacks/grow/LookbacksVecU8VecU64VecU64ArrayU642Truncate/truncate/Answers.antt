use Rattle.std.proofs.Common.{[]}
use Rattle.columnar_sums.specs.Results.{results_format}
use Rattle.columnar_lookback.specs.Lookbacks.{lookbacks_code}
use Rattle.columnar_base.specs.Elements.{bytes_format}
use Rattle.columnar_lookback.specs.LookbackLaws.{lookbacks_results}
use Rattle.columnar_lookback.specs.RecallLaws.{length-recall, recall_cut}
use Rattle.columnar_lookback.proofs.lookbacks.grow.LookbacksVecU8VecU64VecU64ArrayU642Truncate.truncate.Goals as goal

pub truncate-requires-clause-sound : goal.truncate-requires-clause-sound
truncate-requires-clause-sound g c = lookbacks_results g.TC.Column.format bytes_format c.requires.sound

pub truncate-requires-clause-in_range : goal.truncate-requires-clause-in_range
truncate-requires-clause-in_range g c = rw (← length-recall lookbacks_code [] _) c.requires.in_range

pub returns-clause-cut : goal.returns-clause-cut
returns-clause-cut g c = recall_cut lookbacks_code g.TC.Column.format.kin (results_format g.TC.Column.format bytes_format) c.requires.sound c.truncate.ensures.cut
