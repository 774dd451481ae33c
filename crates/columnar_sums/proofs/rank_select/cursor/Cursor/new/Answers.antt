use Rattle.columnar_sums.specs.CursorLaws.{stands_first}
use Rattle.columnar_sums.proofs.rank_select.cursor.Cursor.new.Goals as goal

pub invariant_of-result : goal.invariant_of-result
invariant_of-result g c = stands_first c.requires c.metered_words.ensures c.place_at-place.ensures.at c.place_at-place.ensures.pos c.place_at-place.ensures.index
