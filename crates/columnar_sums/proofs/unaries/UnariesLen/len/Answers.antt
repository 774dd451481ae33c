use Rattle.std.proofs.Common.{◌≡◌, ◌∙◌, ap, sym, length, arith}
use Rattle.std.proofs.lemmas.List.{length-map}
use Rattle.columnar_core.specs.Row.{truth}
use Rattle.columnar_sums.specs.Counting.{ones}
use Rattle.columnar_sums.specs.RankColumns.{bits_ranked}
use Rattle.columnar_sums.specs.UnaryChangeLaws.{content_length}
use Rattle.columnar_sums.specs.UnaryColumns.{unaries_content}
use Rattle.columnar_sums.proofs.unaries.UnariesLen.len.Goals as goal

pub returns : goal.returns
returns g c =
    let b = bits_ranked g.VC.Words.bytes g.WC.Words.bytes c.args.self.now.bits in
    c.rank.ensures.value ∙ ap (ones b) (c.len.ensures ∙ length-map b truth) ∙ content_length (unaries_content g.CC.Words.bytes g.VC.Words.bytes g.WC.Words.bytes c.args.self.now)
