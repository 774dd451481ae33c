use Rattle.columnar_core.specs.ChangeLaws.{passed_on}
use Rattle.columnar_sums.specs.OptionLaws.{options_parts}
use Rattle.columnar_sums.specs.RankColumns.{owned_ranks}
use Rattle.columnar_sums.specs.EarlierSumLaws.{options_made, options_not}
use Rattle.columnar_sums.proofs.earlier.OptionsVecU64VecU64ArrayU642Earlier.from_old.Goals as goal

pub from_old-requires : goal.from_old-requires
from_old-requires g c = (options_parts g.TC.Old.Column.format c.requires).values

pub returns-in_err-somes-clause-err : goal.returns-in_err-somes-clause-err
returns-in_err-somes-clause-err g c = rw (passed_on c.from_residual.result c.from_residual.ensures.1) (options_not g.TC.Old.Column.format g.TC.Column.format {x = owned_ranks c.args.old.indexes} c.in_err-somes.field-0.0 c.requires c.in_err-somes.ensures.err)

pub returns-clause-ok : goal.returns-clause-ok
returns-clause-ok g c = options_made g.TC.Old.Column.format g.TC.Column.format c.requires c.in_ok-somes.ensures.ok
