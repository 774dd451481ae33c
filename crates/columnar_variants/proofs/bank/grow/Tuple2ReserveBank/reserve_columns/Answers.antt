use Rattle.columnar_variants.specs.VariantLaws.{beside_parts, first_stayed}
use Rattle.columnar_variants.specs.VariantCopyLaws.{join_stayed}
use Rattle.columnar_variants.proofs.bank.grow.Tuple2ReserveBank.reserve_columns.Goals as goal

pub reserve_room-requires : goal.reserve_room-requires
reserve_room-requires g c = (beside_parts g.A.Column.format g.B.ColumnBank.bank.sides c.requires).0

pub reserve_columns-requires : goal.reserve_columns-requires
reserve_columns-requires g c = (beside_parts g.A.Column.format g.B.ColumnBank.bank.sides c.requires).1

pub returns-in_err-reserve_room-clause-stayed : goal.returns-in_err-reserve_room-clause-stayed
returns-in_err-reserve_room-clause-stayed g c = first_stayed g.A.Column.format g.B.ColumnBank.bank c.reserve_room.ensures.stayed

pub returns-clause-stayed : goal.returns-clause-stayed
returns-clause-stayed g c = join_stayed g.A.Column.format g.B.ColumnBank.bank c.reserve_room.ensures.stayed c.reserve_columns.ensures.stayed
