use Rattle.columnar_variants.specs.VariantLaws.{variants_parts, variants_stayed}
use Rattle.columnar_variants.proofs.variants.grow.VariantsVecU8VecU64Reserve.reserve_room.Goals as goal

pub reserve_columns-requires : goal.reserve_columns-requires
reserve_columns-requires g c = (variants_parts g.B.ColumnBank.bank c.requires).parts

pub returns-in_err-reserve_columns-clause-stayed : goal.returns-in_err-reserve_columns-clause-stayed
returns-in_err-reserve_columns-clause-stayed g c = variants_stayed g.B.ColumnBank.bank g.met.B.ColumnBank.is_bank c.requires c.reserve_columns.ensures.stayed

pub reserve_room-requires : goal.reserve_room-requires
reserve_room-requires g c = (variants_parts g.B.ColumnBank.bank c.requires).forms

pub returns-clause-stayed : goal.returns-clause-stayed
returns-clause-stayed g c = rw (c.reserve_room.ensures.variants_stay, c.reserve_room.ensures.offsets_stay) (variants_stayed g.B.ColumnBank.bank g.met.B.ColumnBank.is_bank c.requires c.reserve_columns.ensures.stayed)
