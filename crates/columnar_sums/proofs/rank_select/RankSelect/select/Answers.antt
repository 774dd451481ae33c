use Rattle.columnar_sums.specs.CountsKeptLaws.{found_set, found_none, found_past}
use Rattle.columnar_sums.proofs.rank_select.RankSelect.select.Goals as goal

pub returns-clause-set : goal.returns-clause-set
returns-clause-set g c = found_set _ c.args.rank c.select_tallied.result c.select_tallied.ensures.value

pub returns-clause-none : goal.returns-clause-none
returns-clause-none g c = found_none _ c.args.rank c.select_tallied.result c.select_tallied.ensures.value

pub returns-clause-past : goal.returns-clause-past
returns-clause-past g c = found_past _ c.args.rank c.select_tallied.result c.select_tallied.ensures.value
