use Rattle.std.proofs.Common.{refl}
use Rattle.columnar_sums.specs.PlaceLaws.{after_bit, bit_here}
use Rattle.columnar_sums.proofs.rank_select.cursor.take_bit.Goals as goal

pub returns-clause-at : goal.returns-clause-at
returns-clause-at g c = after_bit c.args.words.now c.args.place.now.index c.args.place.now.rest c.args.place.now.pos _ c.requires.at c.requires.floor c.requires.inside refl

pub returns-clause-value : goal.returns-clause-value
returns-clause-value g c = bit_here c.args.words.now c.args.place.now.index c.args.place.now.rest c.args.place.now.pos _ c.requires.at c.requires.floor c.requires.inside refl
