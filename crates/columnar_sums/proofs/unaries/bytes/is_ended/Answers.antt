use Rattle.std.proofs.Common.{◌≡◌, ◌<◌, ◌-◌, ◌∙◌, ap, sym, true, false, length, arith}
use Rattle.std.proofs.lemmas.List.{length-map}
use Rattle.columnar_core.specs.Row.{truth}
use Rattle.columnar_sums.specs.RankColumns.{bits_ranked}
use Rattle.columnar_sums.specs.UnaryBitLaws.{last_read}
use Rattle.columnar_sums.proofs.unaries.bytes.is_ended.Goals as goal

pub returns-else-len-eq0 : goal.returns-else-len-eq0
returns-else-len-eq0 g c =
    let b = bits_ranked g.VC.Words.bytes g.WC.Words.bytes c.args.bits.now in
    last_read b c.len-len.result c.get.result (c.len-len.ensures ∙ length-map b truth) c.if-len-eq0.false c.get.ensures.row
