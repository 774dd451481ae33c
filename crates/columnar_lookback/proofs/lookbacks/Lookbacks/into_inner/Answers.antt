use Rattle.columnar_sums.specs.Results.{results_format}
use Rattle.columnar_lookback.specs.Lookbacks.{lookbacks_code}
use Rattle.columnar_lookback.specs.RecallLaws.{recall_parts}
use Rattle.columnar_lookback.proofs.lookbacks.Lookbacks.into_inner.Goals as goal

pub returns-clause-sound : goal.returns-clause-sound
returns-clause-sound g c = (recall_parts lookbacks_code g.TC.Column.format.kin (results_format g.TC.Column.format g.VC.Column.format) c.requires).inner
