use Rattle.std.proofs.Common.{◌∙◌, ◌+◌, ap}
use Rattle.columnar_core.specs.Store.{slices_in}
use Rattle.columnar_variants.specs.VariantByteLaws.{sides_representable, forms_fit, variants_rows_at}
use Rattle.columnar_variants.proofs.variants.bytes.VariantsStored.rows_in.Goals as goal

pub count_slices-requires : goal.count_slices-requires
count_slices-requires g c = sides_representable g.B.ColumnBank.bank c.requires.representable

pub rows_in-requires-clause-fits : goal.rows_in-requires-clause-fits
rows_in-requires-clause-fits g c = forms_fit g.B.ColumnBank.bank c.args.offset (c.args.offset + c.count_slices.result) (slices_in c.args.store.now) (ap (λ k. c.args.offset + k) c.count_slices.ensures) c.requires.fits

pub returns : goal.returns
returns g c = c.rows_in.ensures ∙ variants_rows_at g.B.ColumnBank.bank (slices_in c.args.store.now) c.args.offset (c.args.offset + c.count_slices.result) (ap (λ k. c.args.offset + k) c.count_slices.ensures)
