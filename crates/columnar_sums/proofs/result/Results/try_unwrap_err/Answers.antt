use Rattle.std.proofs.Common.{refl, sym, ◌∙◌}
use Rattle.columnar_sums.specs.ResultLaws.{results_parts, results_are_errs, results_no_oks}
use Rattle.columnar_sums.proofs.result.Results.try_unwrap_err.Goals as goal

pub len-values-requires : goal.len-values-requires
len-values-requires g c = (results_parts g.SC.Column.format g.TC.Column.format c.requires).oks

pub unwrap_err-requires-clause-errs : goal.unwrap_err-requires-clause-errs
unwrap_err-requires-clause-errs g c = results_are_errs g.SC.Column.format g.TC.Column.format c.requires (sym c.len-values.ensures ∙ c.if-values-eq0.true)

pub returns-then-values-eq0-clause-exact : goal.returns-then-values-eq0-clause-exact
returns-then-values-eq0-clause-exact g c = (
  λ h. results_are_errs g.SC.Column.format g.TC.Column.format c.requires (sym c.len-values.ensures ∙ c.if-values-eq0.true),
  λ h. refl,
)

pub returns-else-values-eq0-clause-exact : goal.returns-else-values-eq0-clause-exact
returns-else-values-eq0-clause-exact g c = (
  λ h. cc,
  λ h. absurd (c.if-values-eq0.false (c.len-values.ensures ∙ results_no_oks g.SC.Column.format g.TC.Column.format c.requires h)),
)
