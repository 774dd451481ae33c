use Rattle.std.proofs.Common.{arith}
use Rattle.columnar_sums.specs.UnaryChangeLaws.{unaries_row, unaries_word}
use Rattle.columnar_sums.proofs.unaries.Unaries.find_tallied.Goals as goal

pub overflow_sub-result : goal.overflow_sub-result
overflow_sub-result g c = (unaries_row (g.CC.Words.bytes c.args.self.now.bits.counts) (g.VC.Words.bytes c.args.self.now.bits.values.values) (g.WC.Words.bytes c.args.self.now.bits.values.tail) c.args.index c.place_of_tallied.result c.place_of_tallied.ensures.set c.place_of_tallied.ensures.rank).1

pub returns-clause-row : goal.returns-clause-row
returns-clause-row g c = unaries_word (g.CC.Words.bytes c.args.self.now.bits.counts) (g.VC.Words.bytes c.args.self.now.bits.values.values) (g.WC.Words.bytes c.args.self.now.bits.values.tail) c.args.index c.place_of_tallied.result c.place_of_tallied.type_inv c.place_of_tallied.ensures.set c.place_of_tallied.ensures.rank
