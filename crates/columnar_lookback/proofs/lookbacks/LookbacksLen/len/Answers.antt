use Rattle.std.proofs.Common.{[], sym, ◌∙◌}
use Rattle.columnar_lookback.specs.Lookbacks.{lookbacks_code}
use Rattle.columnar_lookback.specs.LookbackLaws.{lookbacks_results}
use Rattle.columnar_lookback.specs.RecallLaws.{length-recall}
use Rattle.columnar_lookback.proofs.lookbacks.LookbacksLen.len.Goals as goal

pub len-requires : goal.len-requires
len-requires g c = lookbacks_results g.TC.Column.format g.VC.Column.format c.requires

pub returns : goal.returns
returns g c = c.len.ensures ∙ sym (length-recall lookbacks_code [] _)
