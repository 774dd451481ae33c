use Rattle.columnar_sums.specs.RankChangeLaws.{none_ranked}
use Rattle.columnar_sums.proofs.rank_select.grow.HeldStorage.empty.Goals as goal

pub returns-clause-sound : goal.returns-clause-sound
returns-clause-sound c = none_ranked c.new.result.items c.new.ensures.items c.empty.ensures.sound c.empty.ensures.rows
