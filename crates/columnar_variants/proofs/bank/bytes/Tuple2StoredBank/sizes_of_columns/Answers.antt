use Rattle.columnar_base.specs.TwoPartsLaws.{representable_left, representable_right}
use Rattle.columnar_variants.specs.BankByteLaws.{beside_parts_two}
use Rattle.columnar_variants.proofs.bank.bytes.Tuple2StoredBank.sizes_of_columns.Goals as goal

pub element_sizes-requires : goal.element_sizes-requires
element_sizes-requires g c = representable_left (beside_parts_two g.A.Column.format g.B.ColumnBank.bank.sides) c.requires

pub sizes_of_columns-requires : goal.sizes_of_columns-requires
sizes_of_columns-requires g c = representable_right (beside_parts_two g.A.Column.format g.B.ColumnBank.bank.sides) c.requires
