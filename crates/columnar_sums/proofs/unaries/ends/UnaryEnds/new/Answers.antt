use Rattle.columnar_sums.specs.UnaryBitLaws.{ends_begin}
use Rattle.columnar_sums.proofs.unaries.ends.UnaryEnds.new.Goals as goal

pub returns-clause-stands : goal.returns-clause-stands
returns-clause-stands g c = ends_begin c.cursor_tallied.result _ _ c.cursor_tallied.ensures.stands
