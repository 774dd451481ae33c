use Rattle.std.proofs.Common.{refl}
use Rattle.columnar_sums.specs.PlaceLaws.{at_loaded}
use Rattle.columnar_sums.proofs.rank_select.cursor.place_at.Goals as goal

pub returns-clause-at : goal.returns-clause-at
returns-clause-at g c = at_loaded c.args.words.now _ c.read.result c.cleared_below-rest.result c.args.end _ c.read.ensures.value c.requires refl refl c.cleared_below-rest.ensures.low c.cleared_below-rest.ensures.high
