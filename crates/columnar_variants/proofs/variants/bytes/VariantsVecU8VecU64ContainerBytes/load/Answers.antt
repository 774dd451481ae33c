use Rattle.std.proofs.Common.{◌+◌, ap}
use Rattle.columnar_core.specs.Store.{slices_in}
use Rattle.columnar_variants.specs.VariantByteLaws.{sides_representable, sides_fit, forms_fit, variants_content}
use Rattle.columnar_variants.proofs.variants.bytes.VariantsVecU8VecU64ContainerBytes.load.Goals as goal

pub load_columns-requires-clause-representable : goal.load_columns-requires-clause-representable
load_columns-requires-clause-representable g c = sides_representable g.B.ColumnBank.bank c.requires.representable

pub load_columns-requires-clause-fits : goal.load_columns-requires-clause-fits
load_columns-requires-clause-fits g c = sides_fit g.B.ColumnBank.bank c.args.offset (slices_in c.args.store.now) c.requires.fits

pub count_slices-requires : goal.count_slices-requires
count_slices-requires g c = sides_representable g.B.ColumnBank.bank c.requires.representable

pub load-requires-clause-fits : goal.load-requires-clause-fits
load-requires-clause-fits g c = forms_fit g.B.ColumnBank.bank c.args.offset (c.args.offset + c.count_slices.result) (slices_in c.args.store.now) (ap (λ k. c.args.offset + k) c.count_slices.ensures) c.requires.fits

pub returns-clause-content : goal.returns-clause-content
returns-clause-content g c = variants_content g.B.ColumnBank.bank (slices_in c.args.store.now) c.args.offset (c.args.offset + c.count_slices.result) c.in_ok-columns.ensures.contents c.in_ok-indexes.ensures.content (ap (λ k. c.args.offset + k) c.count_slices.ensures)
