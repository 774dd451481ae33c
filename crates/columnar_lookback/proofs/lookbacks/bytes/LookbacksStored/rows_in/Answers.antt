use Rattle.std.proofs.Common.{[], sym, ◌∙◌}
use Rattle.columnar_lookback.specs.Lookbacks.{lookbacks_code}
use Rattle.columnar_lookback.specs.RecallLaws.{length-recall}
use Rattle.columnar_lookback.proofs.lookbacks.bytes.LookbacksStored.rows_in.Goals as goal

pub returns : goal.returns
returns g c = c.rows_in.ensures ∙ sym (length-recall lookbacks_code [] _)
