use Rattle.std.proofs.Common.{◌+◌, ◌∙◌, refl, sym, ap, arith, drop}
use Rattle.columnar_base.specs.ChangeLaws.{passed_on}
use Rattle.columnar_base.specs.FaultLaws.{fits_from}
use Rattle.columnar_core.specs.Faults.{fault_of}
use Rattle.columnar_core.specs.Store.{slices_in}
use Rattle.columnar_core.specs.WordViews.{view_bytes}
use Rattle.columnar_sums.specs.Discriminants.{forms_content}
use Rattle.columnar_variants.specs.Duals.{slice_bytes}
use Rattle.columnar_variants.specs.BankChangeLaws.{told_as}
use Rattle.columnar_variants.specs.BankByteLaws.{own_variant}
use Rattle.columnar_variants.specs.VariantByteLaws.{sides_representable, variants_sides_at, variants_forms_at, variants_own_at, own_parts, own_fine}
use Rattle.columnar_variants.proofs.variants.bytes.VariantsStored.judge_tallied.Goals as goal

pub judge_columns-requires-clause-representable : goal.judge_columns-requires-clause-representable
judge_columns-requires-clause-representable g c = sides_representable g.B.ColumnBank.bank c.requires.representable

pub count_slices-requires : goal.count_slices-requires
count_slices-requires g c = sides_representable g.B.ColumnBank.bank c.requires.representable

pub have_values-requires-clause-representable : goal.have_values-requires-clause-representable
have_values-requires-clause-representable g c = sides_representable g.B.ColumnBank.bank c.requires.representable

pub have_values-requires-clause-fits : goal.have_values-requires-clause-fits
have_values-requires-clause-fits g c = (fits_from g.B.ColumnBank.bank.sides c.args.offset (slices_in c.args.store.now) (let r = c.requires.room in omega (arith, r)) c.in_ok-judge_columns.ensures.exact)

pub returns-in_err-judge_columns-clause-exact : goal.returns-in_err-judge_columns-clause-exact
returns-in_err-judge_columns-clause-exact g c = rw (passed_on c.from_residual.result c.from_residual.ensures.1) (variants_sides_at g.B.ColumnBank.bank (slices_in c.args.store.now) c.args.offset (fault_of c.in_err-judge_columns.field-0.0) c.in_err-judge_columns.ensures.exact)

pub returns-in_err-judge_tallied-clause-exact : goal.returns-in_err-judge_tallied-clause-exact
returns-in_err-judge_tallied-clause-exact g c = rw (passed_on c.from_residual-in_err-judge_tallied.result c.from_residual-in_err-judge_tallied.ensures.1) (variants_forms_at g.B.ColumnBank.bank (slices_in c.args.store.now) c.args.offset (c.args.offset + c.count_slices.result) (fault_of c.in_err-judge_tallied.field-0.0) (ap (λ k. c.args.offset + k) c.count_slices.ensures) c.in_ok-judge_columns.ensures.exact c.in_err-judge_tallied.ensures.exact)

pub returns-in-None-clause-exact : goal.returns-in-None-clause-exact
returns-in-None-clause-exact g c = variants_own_at g.B.ColumnBank.bank (slices_in c.args.store.now) c.args.offset (c.args.offset + c.count_slices.result) (forms_content slice_bytes view_bytes c.from_store-indexes.result) _ _ _ (ap (λ k. c.args.offset + k) c.count_slices.ensures) c.from_store-indexes.ensures.content c.in_ok-judge_columns.ensures.exact c.in_ok-judge_tallied.ensures.exact refl refl (own_variant c.args.offset _ _ (sym c.in-None.ensures.below))

pub returns-then-have_values-clause-exact : goal.returns-then-have_values-clause-exact
returns-then-have_values-clause-exact g c = variants_own_at g.B.ColumnBank.bank (slices_in c.args.store.now) c.args.offset (c.args.offset + c.count_slices.result) (forms_content slice_bytes view_bytes c.from_store-indexes.result) _ _ _ (ap (λ k. c.args.offset + k) c.count_slices.ensures) c.from_store-indexes.ensures.content c.in_ok-judge_columns.ensures.exact c.in_ok-judge_tallied.ensures.exact refl refl (own_fine c.args.offset _ _ (sym c.in-Some.ensures.below) (sym (told_as g.B.ColumnBank.bank (g.B.ColumnBank.bank.sides.build (drop c.args.offset (slices_in c.args.store.now))) c.in-Some.ensures.counted) ∙ (sym c.have_values.ensures ∙ c.if-have_values.true)))

pub returns-else-have_values-clause-exact : goal.returns-else-have_values-clause-exact
returns-else-have_values-clause-exact g c = variants_own_at g.B.ColumnBank.bank (slices_in c.args.store.now) c.args.offset (c.args.offset + c.count_slices.result) (forms_content slice_bytes view_bytes c.from_store-indexes.result) _ _ _ (ap (λ k. c.args.offset + k) c.count_slices.ensures) c.from_store-indexes.ensures.content c.in_ok-judge_columns.ensures.exact c.in_ok-judge_tallied.ensures.exact refl refl (own_parts c.args.offset _ _ (sym c.in-Some.ensures.below) (sym (told_as g.B.ColumnBank.bank (g.B.ColumnBank.bank.sides.build (drop c.args.offset (slices_in c.args.store.now))) c.in-Some.ensures.counted) ∙ (sym c.have_values.ensures ∙ c.if-have_values.false)))
