use Rattle.columnar_variants.specs.VariantLaws.{beside_parts}
use Rattle.columnar_variants.proofs.nth.Tuple2NthColumnZero.nth_column.Goals as goal

pub returns-clause-sound : goal.returns-clause-sound
returns-clause-sound g c = (beside_parts g.A.Column.format g.B.ColumnBank.bank.sides c.requires).0
