use Rattle.std.proofs.Common.{◌-◌, ◌∙◌, sym, arith}
use Rattle.std.specs.Prelude.{slice_index}
use Rattle.columnar_core.specs.ChangeLaws.{passed_on}
use Rattle.columnar_core.specs.WordViews.{view_bytes}
use Rattle.columnar_sums.specs.Discriminants.{owned_forms, forms_content, variants_of}
use Rattle.columnar_sums.specs.DiscriminantLaws.{length-variant_rows}
use Rattle.columnar_variants.specs.Duals.{slice_bytes}
use Rattle.columnar_variants.specs.VariantListLaws.{times_range, times_of_all, range_length}
use Rattle.columnar_variants.specs.VariantLaws.{variants_parts, variants_count, variants_number, counts_within}
use Rattle.columnar_variants.specs.BankChangeLaws.{bank_undone}
use Rattle.columnar_variants.specs.BankCopyLaws.{whole_copied, whole_denied, whole_overfull, still_within}
use Rattle.columnar_variants.proofs.variants.owned.VariantsVecU8VecU64ExtendFromVariantsRefSliceU8ViewU64.extend_from_self.Goals as goal

pub len-requires : goal.len-requires
len-requires g c = (variants_parts g.B.ColumnBank.bank c.requires.sound).forms

pub fronts-before-requires-clause-in_range : goal.fronts-before-requires-clause-in_range
fronts-before-requires-clause-in_range g c = omega (arith, (c.len.ensures ∙ length-variant_rows (variants_of (owned_forms c.args.self.now.indexes.variant.items c.args.self.now.indexes.offset.items))))

pub fronts-firsts-requires-clause-in_range : goal.fronts-firsts-requires-clause-in_range
fronts-firsts-requires-clause-in_range g c = omega (arith, c.requires.ordered, c.requires.in_range, variants_count g.V.ColumnBank.bank (g.V.ColumnBank.contents c.args.view.columns) (forms_content slice_bytes view_bytes c.args.view.indexes))

pub fronts-lasts-requires-clause-in_range : goal.fronts-lasts-requires-clause-in_range
fronts-lasts-requires-clause-in_range g c = omega (arith, c.requires.in_range, variants_count g.V.ColumnBank.bank (g.V.ColumnBank.contents c.args.view.columns) (forms_content slice_bytes view_bytes c.args.view.indexes))

pub extend_columns-requires-clause-sound : goal.extend_columns-requires-clause-sound
extend_columns-requires-clause-sound g c = (variants_parts g.B.ColumnBank.bank c.requires.sound).parts

pub extend_columns-requires-clause-view_sound : goal.extend_columns-requires-clause-view_sound
extend_columns-requires-clause-view_sound g c = (variants_parts g.V.ColumnBank.bank c.requires.view_sound).parts

pub extend_columns-requires-clause-ordered : goal.extend_columns-requires-clause-ordered
extend_columns-requires-clause-ordered g c = λ v l. rw (c.fronts-firsts.ensures.fronts v, c.fronts-lasts.ensures.fronts v) (let t = (times_range v c.args.range.start c.args.range.«end» (variants_of (forms_content slice_bytes view_bytes c.args.view.indexes)) c.requires.ordered) in omega (arith, t))

pub extend_columns-requires-clause-in_range : goal.extend_columns-requires-clause-in_range
extend_columns-requires-clause-in_range g c = λ v l. rw (c.fronts-lasts.ensures.fronts v) (counts_within g.V.ColumnBank.bank g.met.V.ColumnBank.is_bank (g.V.ColumnBank.contents c.args.view.columns) (variants_of (forms_content slice_bytes view_bytes c.args.view.indexes)) c.args.range.«end» (variants_parts g.V.ColumnBank.bank c.requires.view_sound).told v l)

pub returns-in_err-extend_columns-clause-err : goal.returns-in_err-extend_columns-clause-err
returns-in_err-extend_columns-clause-err g c = rw (passed_on c.from_residual.result c.from_residual.ensures.1) (whole_denied g.B.ColumnBank.bank g.V.ColumnBank.bank g.met.B.ColumnBank.is_bank g.met.V.ColumnBank.is_bank g.met.B.ExtendBank.level {w = (forms_content slice_bytes view_bytes c.args.view.indexes)} (slice_index c.fronts-firsts.result) (slice_index c.fronts-lasts.result) c.args.range.start c.args.range.«end» c.requires.ordered c.fronts-firsts.ensures.fronts c.fronts-lasts.ensures.fronts c.requires.sound c.requires.view_sound c.in_err-extend_columns.ensures.err)

pub extend_variants-requires-clause-sound : goal.extend_variants-requires-clause-sound
extend_variants-requires-clause-sound g c = (variants_parts g.B.ColumnBank.bank c.requires.sound).forms

pub extend_variants-requires-clause-view_sound : goal.extend_variants-requires-clause-view_sound
extend_variants-requires-clause-view_sound g c = (variants_parts g.V.ColumnBank.bank c.requires.view_sound).forms

pub extend_variants-requires-clause-in_range : goal.extend_variants-requires-clause-in_range
extend_variants-requires-clause-in_range g c = omega (arith, c.requires.in_range, variants_count g.V.ColumnBank.bank (g.V.ColumnBank.contents c.args.view.columns) (forms_content slice_bytes view_bytes c.args.view.indexes))

pub extend_variants-requires-clause-below : goal.extend_variants-requires-clause-below
extend_variants-requires-clause-below g c = rw c.fronts-before.ensures.size c.fronts-firsts.ensures.below

pub extend_variants-requires-clause-level : goal.extend_variants-requires-clause-level
extend_variants-requires-clause-level g c = c.fronts-firsts.ensures.size ∙ sym c.fronts-before.ensures.size

pub extend_variants-requires-clause-lengths : goal.extend_variants-requires-clause-lengths
extend_variants-requires-clause-lengths g c = λ v l. c.fronts-before.ensures.fronts v ∙ times_of_all v c.len.result (variants_of (owned_forms c.args.self.now.indexes.variant.items c.args.self.now.indexes.offset.items)) (c.len.ensures ∙ length-variant_rows (variants_of (owned_forms c.args.self.now.indexes.variant.items c.args.self.now.indexes.offset.items)))

pub extend_variants-requires-clause-firsts : goal.extend_variants-requires-clause-firsts
extend_variants-requires-clause-firsts g c = λ v l. c.fronts-firsts.ensures.fronts v

pub returns-in-Ok-clause-ok : goal.returns-in-Ok-clause-ok
returns-in-Ok-clause-ok g c = whole_copied g.B.ColumnBank.bank g.V.ColumnBank.bank g.met.B.ColumnBank.is_bank g.met.V.ColumnBank.is_bank g.met.B.ExtendBank.level {w = (forms_content slice_bytes view_bytes c.args.view.indexes)} (slice_index c.fronts-firsts.result) (slice_index c.fronts-lasts.result) c.args.range.start c.args.range.«end» c.requires.ordered c.fronts-firsts.ensures.fronts c.fronts-lasts.ensures.fronts c.requires.sound c.requires.view_sound c.in_ok-extend_columns.ensures.ok c.in-Ok.ensures.sound c.in-Ok.ensures.variants

pub cut_columns-requires-clause-sound : goal.cut_columns-requires-clause-sound
cut_columns-requires-clause-sound g c = c.in_ok-extend_columns.ensures.ok.sound (variants_parts g.B.ColumnBank.bank c.requires.sound).parts

pub cut_columns-requires-clause-in_range : goal.cut_columns-requires-clause-in_range
cut_columns-requires-clause-in_range g c = λ v l. still_within g.B.ColumnBank.bank v (slice_index c.fronts-before.result v) l c.in_ok-extend_columns.ensures.ok (c.fronts-before.ensures.fronts v ∙ (times_of_all v c.len.result (variants_of (owned_forms c.args.self.now.indexes.variant.items c.args.self.now.indexes.offset.items)) (c.len.ensures ∙ length-variant_rows (variants_of (owned_forms c.args.self.now.indexes.variant.items c.args.self.now.indexes.offset.items))) ∙ sym (variants_number g.B.ColumnBank.bank g.met.B.ColumnBank.is_bank c.requires.sound v l)))

pub returns-in-Err-clause-err : goal.returns-in-Err-clause-err
returns-in-Err-clause-err g c = whole_overfull g.B.ColumnBank.bank g.V.ColumnBank.bank g.met.B.ColumnBank.is_bank (g.V.ColumnBank.contents c.args.view.columns) (forms_content slice_bytes view_bytes c.args.view.indexes) c.args.range.start c.args.range.«end» c.requires.sound (bank_undone g.B.ColumnBank.bank g.met.B.CutBank.lawful g.met.B.ColumnBank.beyond (slice_index c.fronts-before.result) (variants_parts g.B.ColumnBank.bank c.requires.sound).parts (λ v l. (c.fronts-before.ensures.fronts v ∙ (times_of_all v c.len.result (variants_of (owned_forms c.args.self.now.indexes.variant.items c.args.self.now.indexes.offset.items)) (c.len.ensures ∙ length-variant_rows (variants_of (owned_forms c.args.self.now.indexes.variant.items c.args.self.now.indexes.offset.items))) ∙ sym (variants_number g.B.ColumnBank.bank g.met.B.ColumnBank.is_bank c.requires.sound v l)))) c.in_ok-extend_columns.ensures.ok c.cut_columns.ensures) c.in-Err.ensures.stayed c.in-Err.ensures.variants_stay (λ rs h. c.in-Err.ensures.cause rs (h ∙ range_length (variants_of (forms_content slice_bytes view_bytes c.args.view.indexes)) c.args.range.start (c.args.range.«end» - c.args.range.start) (omega (arith, c.requires.ordered, c.requires.in_range, variants_count g.V.ColumnBank.bank (g.V.ColumnBank.contents c.args.view.columns) (forms_content slice_bytes view_bytes c.args.view.indexes)))))
