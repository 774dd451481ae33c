use Rattle.columnar_variants.specs.VariantLaws.{variants_parts}
use Rattle.columnar_variants.specs.VariantCopyLaws.{variants_values}
use Rattle.columnar_variants.proofs.bank.apart.columns_of.Goals as goal

pub returns-clause-sound : goal.returns-clause-sound
returns-clause-sound g c = (variants_parts g.B.ColumnBank.bank c.requires).parts

pub returns-clause-rows : goal.returns-clause-rows
returns-clause-rows g c = variants_values g.B.ColumnBank.bank g.met.B.ColumnBank.is_bank c.requires
