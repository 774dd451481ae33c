use Rattle.std.proofs.Common.{sym, ◌∙◌}
use Rattle.columnar_sums.specs.UnaryChangeLaws.{content_rises}
use Rattle.columnar_sums.specs.UnaryColumns.{unaries_content}
use Rattle.columnar_sums.proofs.unaries.UnariesOffsets.rises_to_tallied.Goals as goal

pub returns-clause-value : goal.returns-clause-value
returns-clause-value g c = c.ends_at.ensures.value ∙ sym (content_rises (unaries_content g.CC.Words.bytes g.VC.Words.bytes g.WC.Words.bytes c.args.self.now) c.args.«end» c.requires)
