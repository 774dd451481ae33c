use Rattle.columnar_sums.specs.Options.{options_format}
use Rattle.columnar_lookback.specs.RecallLaws.{recall_parts}
use Rattle.columnar_lookback.specs.Repeats.{repeats_code}
use Rattle.columnar_lookback.proofs.repeats.Repeats.into_inner.Goals as goal

pub returns-clause-sound : goal.returns-clause-sound
returns-clause-sound g c = (recall_parts repeats_code g.TC.Column.format.kin (options_format g.TC.Column.format) c.requires).inner
