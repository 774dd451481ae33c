use Rattle.std.proofs.Common.{refl}
use Rattle.columnar_sums.specs.PlaceLaws.{ones_passed, at_later}
use Rattle.columnar_sums.proofs.rank_select.cursor.skip_in.Goals as goal

pub returns-clause-at : goal.returns-clause-at
returns-clause-at g c = at_later c.args.words.now _ c.args.place.now.rest _ c.args.place.now.pos _ _ c.requires.at c.requires.floor c.requires.forward c.requires.inside refl c.cleared_below-place.ensures.low c.cleared_below-place.ensures.high

pub returns-clause-passed : goal.returns-clause-passed
returns-clause-passed g c = rw c.ones_in-passed.ensures (ones_passed c.args.words.now _ c.args.place.now.rest c.args.place.now.pos _ _ c.requires.at c.requires.floor c.requires.forward c.requires.inside refl)
