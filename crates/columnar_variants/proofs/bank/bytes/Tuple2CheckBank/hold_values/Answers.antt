use Rattle.std.specs.Prelude.{slice_index}
use Rattle.columnar_variants.specs.VariantLaws.{beside_parts}
use Rattle.columnar_variants.specs.BankByteLaws.{told_then, told_else}
use Rattle.columnar_variants.proofs.bank.bytes.Tuple2CheckBank.hold_values.Goals as goal

pub len-requires : goal.len-requires
len-requires g c = (beside_parts g.A.Column.format g.B.ColumnBank.bank.sides c.requires).0

pub hold_values-requires : goal.hold_values-requires
hold_values-requires g c = (beside_parts g.A.Column.format g.B.ColumnBank.bank.sides c.requires).1

pub returns-then-len-first_count : goal.returns-then-len-first_count
returns-then-len-first_count g c = told_then g.A.Column.format g.B.ColumnBank.bank (g.A.Column.content c.args.self.now.0) (g.B.ColumnBank.contents c.args.self.now.1) (slice_index c.args.counts.now) (slice_index c.other_counts.result.now) c.len.result c.first_count.result c.hold_values.result c.len.ensures c.first_count.ensures c.other_counts.ensures c.hold_values.ensures c.if-len-first_count.true

pub returns-else-len-first_count : goal.returns-else-len-first_count
returns-else-len-first_count g c = told_else g.A.Column.format g.B.ColumnBank.bank (g.A.Column.content c.args.self.now.0) (g.B.ColumnBank.contents c.args.self.now.1) (slice_index c.args.counts.now) c.len.result c.first_count.result c.len.ensures c.first_count.ensures c.if-len-first_count.false
