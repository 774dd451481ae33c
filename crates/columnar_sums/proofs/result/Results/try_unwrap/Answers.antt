use Rattle.std.proofs.Common.{refl, sym, ◌∙◌}
use Rattle.columnar_sums.specs.ResultLaws.{results_parts, results_are_oks, results_no_errs}
use Rattle.columnar_sums.proofs.result.Results.try_unwrap.Goals as goal

pub len-errors-requires : goal.len-errors-requires
len-errors-requires g c = (results_parts g.SC.Column.format g.TC.Column.format c.requires).errs

pub unwrap-requires-clause-oks : goal.unwrap-requires-clause-oks
unwrap-requires-clause-oks g c = results_are_oks g.SC.Column.format g.TC.Column.format c.requires (sym c.len-errors.ensures ∙ c.if-errors-eq0.true)

pub returns-then-errors-eq0-clause-exact : goal.returns-then-errors-eq0-clause-exact
returns-then-errors-eq0-clause-exact g c = (
  λ h. results_are_oks g.SC.Column.format g.TC.Column.format c.requires (sym c.len-errors.ensures ∙ c.if-errors-eq0.true),
  λ h. refl,
)

pub returns-else-errors-eq0-clause-exact : goal.returns-else-errors-eq0-clause-exact
returns-else-errors-eq0-clause-exact g c = (
  λ h. cc,
  λ h. absurd (c.if-errors-eq0.false (c.len-errors.ensures ∙ results_no_errs g.SC.Column.format g.TC.Column.format c.requires h)),
)
