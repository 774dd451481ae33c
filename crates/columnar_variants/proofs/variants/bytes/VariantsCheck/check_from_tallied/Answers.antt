use Rattle.std.proofs.Common.{◌∙◌, refl, sym}
use Rattle.columnar_base.specs.ChangeLaws.{passed_on}
use Rattle.columnar_base.specs.FaultLaws.{sound_from}
use Rattle.columnar_core.specs.Faults.{fault_of}
use Rattle.columnar_sums.specs.Discriminants.{forms_content}
use Rattle.columnar_variants.specs.BankChangeLaws.{told_as}
use Rattle.columnar_variants.specs.BankByteLaws.{own_variant}
use Rattle.columnar_variants.specs.VariantByteLaws.{sides_representable, variants_sides, variants_forms, variants_own, own_parts, own_fine}
use Rattle.columnar_variants.proofs.variants.bytes.VariantsCheck.check_from_tallied.Goals as goal

pub check_columns-requires-clause-representable : goal.check_columns-requires-clause-representable
check_columns-requires-clause-representable g c = sides_representable g.B.ColumnBank.bank c.requires.representable

pub count_slices-requires : goal.count_slices-requires
count_slices-requires g c = sides_representable g.B.ColumnBank.bank c.requires.representable

pub hold_values-requires : goal.hold_values-requires
hold_values-requires g c = sound_from g.B.ColumnBank.bank.sides (g.B.ColumnBank.contents c.args.self.now.columns) c.args.from c.in_ok-check_columns.ensures.exact

pub returns-in_err-check_columns-clause-exact : goal.returns-in_err-check_columns-clause-exact
returns-in_err-check_columns-clause-exact g c = rw (passed_on c.from_residual.result c.from_residual.ensures.1) (variants_sides g.B.ColumnBank.bank (g.B.ColumnBank.contents c.args.self.now.columns) (forms_content g.CVar.Variants.bytes g.COff.Words.bytes c.args.self.now.indexes) c.args.from (fault_of c.in_err-check_columns.field-0.0) c.in_err-check_columns.ensures.exact)

pub returns-in_err-check_from_tallied-clause-exact : goal.returns-in_err-check_from_tallied-clause-exact
returns-in_err-check_from_tallied-clause-exact g c = rw (passed_on c.from_residual-in_err-check_from_tallied.result c.from_residual-in_err-check_from_tallied.ensures.1) (variants_forms g.B.ColumnBank.bank (g.B.ColumnBank.contents c.args.self.now.columns) (forms_content g.CVar.Variants.bytes g.COff.Words.bytes c.args.self.now.indexes) c.args.from (fault_of c.in_err-check_from_tallied.field-0.0) c.in_ok-check_columns.ensures.exact (rw c.count_slices.ensures at c.in_err-check_from_tallied.ensures.exact))

pub returns-in-None-clause-exact : goal.returns-in-None-clause-exact
returns-in-None-clause-exact g c = variants_own g.B.ColumnBank.bank (g.B.ColumnBank.contents c.args.self.now.columns) (forms_content g.CVar.Variants.bytes g.COff.Words.bytes c.args.self.now.indexes) c.args.from _ _ _ c.in_ok-check_columns.ensures.exact (rw c.count_slices.ensures at c.in_ok-check_from_tallied.ensures.exact) refl refl (own_variant c.args.from _ _ (sym c.in-None.ensures.below))

pub returns-then-hold_values-clause-exact : goal.returns-then-hold_values-clause-exact
returns-then-hold_values-clause-exact g c = variants_own g.B.ColumnBank.bank (g.B.ColumnBank.contents c.args.self.now.columns) (forms_content g.CVar.Variants.bytes g.COff.Words.bytes c.args.self.now.indexes) c.args.from _ _ _ c.in_ok-check_columns.ensures.exact (rw c.count_slices.ensures at c.in_ok-check_from_tallied.ensures.exact) refl refl (own_fine c.args.from _ _ (sym c.in-Some.ensures.below) (sym (told_as g.B.ColumnBank.bank (g.B.ColumnBank.contents c.args.self.now.columns) c.in-Some.ensures.counted) ∙ (sym c.hold_values.ensures ∙ c.if-hold_values.true)))

pub returns-else-hold_values-clause-exact : goal.returns-else-hold_values-clause-exact
returns-else-hold_values-clause-exact g c = variants_own g.B.ColumnBank.bank (g.B.ColumnBank.contents c.args.self.now.columns) (forms_content g.CVar.Variants.bytes g.COff.Words.bytes c.args.self.now.indexes) c.args.from _ _ _ c.in_ok-check_columns.ensures.exact (rw c.count_slices.ensures at c.in_ok-check_from_tallied.ensures.exact) refl refl (own_parts c.args.from _ _ (sym c.in-Some.ensures.below) (sym (told_as g.B.ColumnBank.bank (g.B.ColumnBank.contents c.args.self.now.columns) c.in-Some.ensures.counted) ∙ (sym c.hold_values.ensures ∙ c.if-hold_values.false)))
