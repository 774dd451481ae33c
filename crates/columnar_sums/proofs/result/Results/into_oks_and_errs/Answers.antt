use Rattle.std.proofs.Common.{sym}
use Rattle.columnar_sums.specs.ResultLaws.{results_errs, results_oks, results_parts}
use Rattle.columnar_sums.proofs.result.Results.into_oks_and_errs.Goals as goal

pub returns-clause-oks : goal.returns-clause-oks
returns-clause-oks g c = (results_parts g.SC.Column.format g.TC.Column.format c.requires).oks

pub returns-clause-errs : goal.returns-clause-errs
returns-clause-errs g c = (results_parts g.SC.Column.format g.TC.Column.format c.requires).errs

pub returns-clause-ok_rows : goal.returns-clause-ok_rows
returns-clause-ok_rows g c = sym (results_oks g.SC.Column.format g.TC.Column.format c.requires)

pub returns-clause-err_rows : goal.returns-clause-err_rows
returns-clause-err_rows g c = sym (results_errs g.SC.Column.format g.TC.Column.format c.requires)
