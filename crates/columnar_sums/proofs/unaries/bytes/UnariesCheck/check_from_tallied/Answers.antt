use Rattle.std.proofs.Common.{sym, ◌∙◌}
use Rattle.columnar_sums.specs.UnaryChangeLaws.{judged_true, judged_false}
use Rattle.columnar_sums.specs.UnaryColumns.{unaries_content}
use Rattle.columnar_sums.proofs.unaries.bytes.UnariesCheck.check_from_tallied.Goals as goal

pub returns-then-is_ended-clause-exact : goal.returns-then-is_ended-clause-exact
returns-then-is_ended-clause-exact g c = judged_true (unaries_content g.CC.Words.bytes g.VC.Words.bytes g.WC.Words.bytes c.args.self.now) c.args.from c.in_ok-check_from_tallied.ensures.exact (sym c.is_ended.ensures ∙ c.if-is_ended.true)

pub returns-else-is_ended-clause-exact : goal.returns-else-is_ended-clause-exact
returns-else-is_ended-clause-exact g c = judged_false (unaries_content g.CC.Words.bytes g.VC.Words.bytes g.WC.Words.bytes c.args.self.now) c.args.from c.in_ok-check_from_tallied.ensures.exact (sym c.is_ended.ensures ∙ c.if-is_ended.false)
