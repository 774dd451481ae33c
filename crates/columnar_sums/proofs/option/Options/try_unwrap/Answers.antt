use Rattle.std.proofs.Common.{refl, sym, ◌∙◌}
use Rattle.columnar_sums.specs.OptionLaws.{options_parts, options_all, options_are_some, options_some_back}
use Rattle.columnar_sums.proofs.option.Options.try_unwrap.Goals as goal

pub len-requires-2 : goal.len-requires-2
len-requires-2 g c = (options_parts g.TC.Column.format c.requires).values

pub returns-then-len-clause-exact : goal.returns-then-len-clause-exact
returns-then-len-clause-exact g c = (
  λ h. options_are_some g.TC.Column.format c.requires (sym c.len.ensures ∙ (c.if-len.true ∙ c.len-2.ensures)),
  λ h. refl,
)

pub returns-then-len-clause-rows : goal.returns-then-len-clause-rows
returns-then-len-clause-rows g c = options_all g.TC.Column.format c.requires (sym c.len.ensures ∙ (c.if-len.true ∙ c.len-2.ensures))

pub returns-clause-exact : goal.returns-clause-exact
returns-clause-exact g c = (
  λ h. cc,
  λ h. absurd (c.if-len.false (c.len.ensures ∙ (options_some_back g.TC.Column.format c.requires h ∙ sym c.len-2.ensures))),
)
