use Rattle.columnar_sums.specs.Options.{options_format}
use Rattle.columnar_lookback.specs.Repeats.{repeats_code}
use Rattle.columnar_lookback.specs.RecallLaws.{recall_stayed}
use Rattle.columnar_lookback.proofs.repeats.grow.RepeatsVecU64VecU64ArrayU642Reserve.reserve_room.Goals as goal

pub returns-clause-stayed : goal.returns-clause-stayed
returns-clause-stayed g c = recall_stayed repeats_code g.TC.Column.format.kin (options_format g.TC.Column.format) c.requires c.reserve_room.ensures.stayed
