use Rattle.std.proofs.Common.{arith}
use Rattle.columnar_sums.specs.PlaceLaws.{at_word}
use Rattle.columnar_sums.proofs.rank_select.cursor.step_in.Goals as goal

pub take_bit-requires-clause-at : goal.take_bit-requires-clause-at
take_bit-requires-clause-at g c = at_word c.args.words.now _ c.read-place.result c.args.place.now.pos c.read-place.ensures.value (omega arith) (omega arith)
