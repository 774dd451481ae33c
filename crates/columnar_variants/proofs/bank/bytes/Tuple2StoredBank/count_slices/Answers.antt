use Rattle.columnar_base.specs.TwoPartsLaws.{representable_left, representable_right}
use Rattle.columnar_variants.specs.BankByteLaws.{beside_parts_two}
use Rattle.columnar_variants.proofs.bank.bytes.Tuple2StoredBank.count_slices.Goals as goal

pub slice_count-requires : goal.slice_count-requires
slice_count-requires g c = representable_left (beside_parts_two g.A.Column.format g.B.ColumnBank.bank.sides) c.requires

pub count_slices-requires : goal.count_slices-requires
count_slices-requires g c = representable_right (beside_parts_two g.A.Column.format g.B.ColumnBank.bank.sides) c.requires
