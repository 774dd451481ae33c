use Rattle.columnar_sums.specs.ResultLaws.{results_all_err, results_no_oks}
use Rattle.columnar_sums.proofs.result.Results.unwrap_err.Goals as goal

pub returns-clause-rows : goal.returns-clause-rows
returns-clause-rows g c = results_all_err g.SC.Column.format g.TC.Column.format c.requires.sound (results_no_oks g.SC.Column.format g.TC.Column.format c.requires.sound c.requires.errs)
