use Rattle.std.proofs.Common.{[], sym, ◌∙◌}
use Rattle.columnar_lookback.specs.Repeats.{repeats_code}
use Rattle.columnar_lookback.specs.RecallLaws.{length-recall}
use Rattle.columnar_lookback.proofs.repeats.RepeatsLen.len.Goals as goal

pub returns : goal.returns
returns g c = c.len.ensures ∙ sym (length-recall repeats_code [] _)
