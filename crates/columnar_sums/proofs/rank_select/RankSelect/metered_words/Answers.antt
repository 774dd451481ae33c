use Rattle.std.proofs.Common.{arith}
use Rattle.columnar_bits.specs.BoolLaws.{two_words}
use Rattle.columnar_sums.specs.RankLaws.{ranks_parts}
use Rattle.columnar_sums.proofs.rank_select.RankSelect.metered_words.Goals as goal

pub new-requires : goal.new-requires
new-requires g c = rw c.words-2.ensures (omega (arith, two_words (ranks_parts c.requires).bools))
