use Rattle.columnar_sums.specs.ResultLaws.{results_none}
use Rattle.columnar_sums.proofs.result.grow.ResultsVecU64VecU64ArrayU642Storage.empty.Goals as goal

pub returns-clause-sound : goal.returns-clause-sound
returns-clause-sound g c = results_none g.SC.Column.format g.TC.Column.format c.empty-indexes.ensures.sound c.empty-oks.ensures.sound c.empty-errs.ensures.sound c.empty-indexes.ensures.rows c.empty-oks.ensures.rows c.empty-errs.ensures.rows
