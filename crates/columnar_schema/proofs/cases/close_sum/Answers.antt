use Rattle.std.proofs.Common.{◌∙◌, refl, sym, drop}
use Rattle.columnar_base.specs.ChangeLaws.{passed_on}
use Rattle.columnar_core.specs.Faults.{fault_of}
use Rattle.columnar_core.specs.Store.{slices_in}
use Rattle.columnar_core.specs.WordViews.{view_bytes}
use Rattle.columnar_sums.specs.Discriminants.{forms_content}
use Rattle.columnar_variants.specs.BankByteLaws.{own_variant}
use Rattle.columnar_variants.specs.BankChangeLaws.{told_as}
use Rattle.columnar_variants.specs.Duals.{slice_bytes}
use Rattle.columnar_variants.specs.VariantByteLaws.{own_fine, own_parts}
use Rattle.columnar_schema.specs.BankLaws.{forms_refused, sum_own}
use Rattle.columnar_schema.specs.Formats.{bank_of}
use Rattle.columnar_schema.proofs.cases.close_sum.Goals as goal

pub returns-in_err-judge_tallied-clause-exact : goal.returns-in_err-judge_tallied-clause-exact
returns-in_err-judge_tallied-clause-exact g c = rw (passed_on c.from_residual.result c.from_residual.ensures.1) (forms_refused c.args.cases.now c.args.offset c.args.after (slices_in c.args.store.now) (fault_of c.in_err-judge_tallied.field-0.0) c.requires.after c.requires.fits c.in_err-judge_tallied.ensures.exact)

pub returns-in-None-clause-exact : goal.returns-in-None-clause-exact
returns-in-None-clause-exact g c = sum_own c.args.cases.now c.args.offset c.args.after (slices_in c.args.store.now) (forms_content slice_bytes view_bytes c.from_store-indexes.result) _ _ _ c.requires.after c.from_store-indexes.ensures.content c.requires.fits c.in_ok-judge_tallied.ensures.exact refl refl (own_variant c.args.offset _ _ (sym c.in-None.ensures.below))

pub returns-then-have_values-clause-exact : goal.returns-then-have_values-clause-exact
returns-then-have_values-clause-exact g c = sum_own c.args.cases.now c.args.offset c.args.after (slices_in c.args.store.now) (forms_content slice_bytes view_bytes c.from_store-indexes.result) _ _ _ c.requires.after c.from_store-indexes.ensures.content c.requires.fits c.in_ok-judge_tallied.ensures.exact refl refl (own_fine c.args.offset _ _ (sym c.in-Some.ensures.below) (sym (told_as (bank_of c.args.cases.now) ((bank_of c.args.cases.now).sides.build (drop c.args.offset (slices_in c.args.store.now))) c.in-Some.ensures.counted) ∙ (sym c.have_values.ensures ∙ c.if-have_values.true)))

pub returns-else-have_values-clause-exact : goal.returns-else-have_values-clause-exact
returns-else-have_values-clause-exact g c = sum_own c.args.cases.now c.args.offset c.args.after (slices_in c.args.store.now) (forms_content slice_bytes view_bytes c.from_store-indexes.result) _ _ _ c.requires.after c.from_store-indexes.ensures.content c.requires.fits c.in_ok-judge_tallied.ensures.exact refl refl (own_parts c.args.offset _ _ (sym c.in-Some.ensures.below) (sym (told_as (bank_of c.args.cases.now) ((bank_of c.args.cases.now).sides.build (drop c.args.offset (slices_in c.args.store.now))) c.in-Some.ensures.counted) ∙ (sym c.have_values.ensures ∙ c.if-have_values.false)))
