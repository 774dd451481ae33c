use Rattle.columnar_core.specs.ChangeLaws.{passed_on}
use Rattle.columnar_sums.specs.ResultLaws.{results_parts}
use Rattle.columnar_sums.specs.RankColumns.{owned_ranks}
use Rattle.columnar_sums.specs.EarlierSumLaws.{results_made, results_not_oks, results_not_errs}
use Rattle.columnar_sums.proofs.earlier.ResultsVecU64VecU64ArrayU642Earlier.from_old.Goals as goal

pub from_old-requires : goal.from_old-requires
from_old-requires g c = (results_parts g.SC.Old.Column.format g.TC.Old.Column.format c.requires).oks

pub returns-in_err-oks-clause-err : goal.returns-in_err-oks-clause-err
returns-in_err-oks-clause-err g c = rw (passed_on c.from_residual.result c.from_residual.ensures.1) (results_not_oks g.SC.Old.Column.format g.SC.Column.format g.TC.Old.Column.format g.TC.Column.format {x = owned_ranks c.args.old.indexes} c.in_err-oks.field-0.0 c.requires c.in_err-oks.ensures.err)

pub from_old-requires-2 : goal.from_old-requires-2
from_old-requires-2 g c = (results_parts g.SC.Old.Column.format g.TC.Old.Column.format c.requires).errs

pub returns-in_err-errs-clause-err : goal.returns-in_err-errs-clause-err
returns-in_err-errs-clause-err g c = rw (passed_on c.from_residual-in_err-errs.result c.from_residual-in_err-errs.ensures.1) (results_not_errs g.SC.Old.Column.format g.SC.Column.format g.TC.Old.Column.format g.TC.Column.format {x = owned_ranks c.args.old.indexes} c.in_err-errs.field-0.0 c.requires c.in_err-errs.ensures.err)

pub returns-clause-ok : goal.returns-clause-ok
returns-clause-ok g c = results_made g.SC.Old.Column.format g.SC.Column.format g.TC.Old.Column.format g.TC.Column.format c.requires c.in_ok-oks.ensures.ok c.in_ok-errs.ensures.ok
