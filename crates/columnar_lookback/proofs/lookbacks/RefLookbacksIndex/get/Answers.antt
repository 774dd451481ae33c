use Rattle.std.proofs.Common.{◌∙◌}
use Rattle.columnar_lookback.specs.LookbackLaws.{lookbacks_values}
use Rattle.columnar_lookback.proofs.lookbacks.RefLookbacksIndex.get.Goals as goal

pub get-requires-clause-sound : goal.get-requires-clause-sound
get-requires-clause-sound g c = lookbacks_values g.TC.Column.format g.VC.Column.format c.requires.sound

pub returns-clause-row : goal.returns-clause-row
returns-clause-row g c = c.value_index.ensures.row ∙ c.get.ensures.row
