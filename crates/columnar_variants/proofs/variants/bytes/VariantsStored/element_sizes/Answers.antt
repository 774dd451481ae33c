use Rattle.columnar_variants.specs.VariantByteLaws.{sides_representable}
use Rattle.columnar_variants.proofs.variants.bytes.VariantsStored.element_sizes.Goals as goal

pub sizes_of_columns-requires : goal.sizes_of_columns-requires
sizes_of_columns-requires g c = sides_representable g.B.ColumnBank.bank c.requires
