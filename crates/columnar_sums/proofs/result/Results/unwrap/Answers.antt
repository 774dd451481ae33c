use Rattle.columnar_sums.specs.ResultLaws.{results_all_ok, results_no_errs}
use Rattle.columnar_sums.proofs.result.Results.unwrap.Goals as goal

pub returns-clause-rows : goal.returns-clause-rows
returns-clause-rows g c = results_all_ok g.SC.Column.format g.TC.Column.format c.requires.sound (results_no_errs g.SC.Column.format g.TC.Column.format c.requires.sound c.requires.oks)
