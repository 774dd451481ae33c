use Rattle.std.proofs.Common.{length, sym, ap, ◌∙◌}
use Rattle.std.proofs.lemmas.Bool.{eqb-true, eq-eqb}
use Rattle.std.proofs.lemmas.List.{nil_from_length}
use Rattle.columnar_sums.specs.OptionLaws.{options_parts, options_somes}
use Rattle.columnar_sums.proofs.option.Options.is_all_none.Goals as goal

pub len-requires : goal.len-requires
len-requires g c = (options_parts g.TC.Column.format c.requires).values

pub returns : goal.returns
returns g c = (
  λ h. options_somes g.TC.Column.format c.requires ∙ nil_from_length _ (sym c.len.ensures ∙ eqb-true _ _ h),
  λ h. eq-eqb _ _ (c.len.ensures ∙ ap length (sym (options_somes g.TC.Column.format c.requires) ∙ h)),
)
