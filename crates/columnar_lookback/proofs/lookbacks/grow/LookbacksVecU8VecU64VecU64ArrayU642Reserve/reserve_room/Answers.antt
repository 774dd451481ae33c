use Rattle.columnar_sums.specs.Results.{results_format}
use Rattle.columnar_lookback.specs.Lookbacks.{lookbacks_code}
use Rattle.columnar_base.specs.Elements.{bytes_format}
use Rattle.columnar_lookback.specs.LookbackLaws.{lookbacks_results}
use Rattle.columnar_lookback.specs.RecallLaws.{recall_stayed}
use Rattle.columnar_lookback.proofs.lookbacks.grow.LookbacksVecU8VecU64VecU64ArrayU642Reserve.reserve_room.Goals as goal

pub reserve_room-requires : goal.reserve_room-requires
reserve_room-requires g c = lookbacks_results g.TC.Column.format bytes_format c.requires

pub returns-clause-stayed : goal.returns-clause-stayed
returns-clause-stayed g c = recall_stayed lookbacks_code g.TC.Column.format.kin (results_format g.TC.Column.format bytes_format) c.requires c.reserve_room.ensures.stayed
