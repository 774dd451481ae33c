use Rattle.columnar_variants.specs.VariantLaws.{beside_parts}
use Rattle.columnar_variants.proofs.nth.Tuple2NthColumnNext.nth_column.Goals as goal

pub nth_column-requires : goal.nth_column-requires
nth_column-requires g c = (beside_parts g.A.Column.format g.B.ColumnBank.bank.sides c.requires).1
