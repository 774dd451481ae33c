use Rattle.std.proofs.Common.{◌∙◌}
use Rattle.columnar_lookback.specs.RepeatLaws.{repeats_values}
use Rattle.columnar_lookback.proofs.repeats.RepeatsIndex.get.Goals as goal

pub get-requires-clause-sound : goal.get-requires-clause-sound
get-requires-clause-sound g c = repeats_values g.TC.Column.format c.requires.sound

pub returns-clause-row : goal.returns-clause-row
returns-clause-row g c = c.value_index.ensures.row ∙ c.get.ensures.row
