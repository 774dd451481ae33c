use Rattle.std.proofs.Common.{◌≡◌, ◌<◌, ◌^◌, ◌-◌, ap, sym, arith}
use Rattle.columnar_bits.specs.BoolLaws.{bits_length}
use Rattle.columnar_sums.specs.CountLaws.{set_inside}
use Rattle.columnar_sums.specs.RankColumns.{bits_ranked}
use Rattle.columnar_sums.specs.RankLaws.{ranks_parts}
use Rattle.columnar_sums.specs.Unary.{upto}
use Rattle.columnar_sums.specs.UnaryChangeLaws.{unaries_ranked, cut_place}
use Rattle.columnar_sums.proofs.unaries.Unaries.cut_end_tallied.Goals as goal

pub overflow_add-result : goal.overflow_add-result
overflow_add-result g c =
    let b = bits_ranked g.VC.Words.bytes g.WC.Words.bytes c.args.self.now.bits in
    let s = (ranks_parts (unaries_ranked c.requires.sound)).bools.short in
    omega (arith, s, set_inside b c.place_of_tallied.result c.place_of_tallied.ensures.set, bits_length (g.VC.Words.bytes c.args.self.now.bits.values.values) (g.WC.Words.bytes c.args.self.now.bits.values.tail))

pub returns-then-n-eq0-clause-value : goal.returns-then-n-eq0-clause-value
returns-then-n-eq0-clause-value g c =
    let b = bits_ranked g.VC.Words.bytes g.WC.Words.bytes c.args.self.now.bits in
    sym (ap (upto b) c.if-n-eq0.true)

pub returns-clause-value : goal.returns-clause-value
returns-clause-value g c = cut_place (g.VC.Words.bytes c.args.self.now.bits.values.values) (g.WC.Words.bytes c.args.self.now.bits.values.tail) c.args.n c.place_of_tallied.result (omega (arith, c.if-n-eq0.false)) c.place_of_tallied.ensures.set c.place_of_tallied.ensures.rank
