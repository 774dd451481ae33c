use Rattle.columnar_sums.specs.OptionLaws.{options_none}
use Rattle.columnar_sums.proofs.option.grow.OptionsVecU64VecU64ArrayU642Storage.empty.Goals as goal

pub returns-clause-sound : goal.returns-clause-sound
returns-clause-sound g c = options_none g.TC.Column.format c.empty-indexes.ensures.sound c.empty-somes.ensures.sound c.empty-indexes.ensures.rows c.empty-somes.ensures.rows
