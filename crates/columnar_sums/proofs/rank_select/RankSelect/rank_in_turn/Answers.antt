use Rattle.std.proofs.Common.{sym}
use Rattle.columnar_sums.specs.CountLaws.{place_some}
use Rattle.columnar_sums.proofs.rank_select.RankSelect.rank_in_turn.Goals as goal

pub returns-clause-found_again : goal.returns-clause-found_again
returns-clause-found_again g c h = place_some _ _ _ h (sym c.rank_in_turn_tallied.ensures.value)
