use Rattle.columnar_variants.specs.VariantByteLaws.{sides_representable}
use Rattle.columnar_variants.proofs.variants.bytes.VariantsStored.slice_count.Goals as goal

pub count_slices-requires : goal.count_slices-requires
count_slices-requires g c = sides_representable g.B.ColumnBank.bank c.requires
