use Rattle.std.proofs.Common.{◌∙◌, ap}
use Rattle.std.specs.Prelude.{slice_get}
use Rattle.columnar_variants.specs.BankLaws.{first_at, later_at}
use Rattle.columnar_variants.specs.VariantLaws.{beside_parts}
use Rattle.columnar_variants.proofs.bank.Tuple2IndexBank.value.Goals as goal

pub get-requires-clause-sound : goal.get-requires-clause-sound
get-requires-clause-sound g c = (beside_parts g.A.Column.format g.B.ColumnBank.bank.sides c.requires.sound).0

pub get-requires-clause-in_range : goal.get-requires-clause-in_range
get-requires-clause-in_range g c = rw (first_at g.A.Column.format g.B.ColumnBank.bank (g.A.Column.content c.args.self.now.0) (g.B.ColumnBank.contents c.args.self.now.1) c.args.variant c.if-variant-eq0.true) at c.requires.in_range

pub value-requires-clause-sound : goal.value-requires-clause-sound
value-requires-clause-sound g c = (beside_parts g.A.Column.format g.B.ColumnBank.bank.sides c.requires.sound).1

pub value-requires-clause-in_range : goal.value-requires-clause-in_range
value-requires-clause-in_range g c = rw (later_at g.A.Column.format g.B.ColumnBank.bank (g.A.Column.content c.args.self.now.0) (g.B.ColumnBank.contents c.args.self.now.1) c.args.variant c.if-variant-eq0.false) at c.requires.in_range

pub returns-then-variant-eq0-clause-value : goal.returns-then-variant-eq0-clause-value
returns-then-variant-eq0-clause-value g c = ap (λ rs. slice_get rs c.args.index) (first_at g.A.Column.format g.B.ColumnBank.bank (g.A.Column.content c.args.self.now.0) (g.B.ColumnBank.contents c.args.self.now.1) c.args.variant c.if-variant-eq0.true) ∙ c.get.ensures.row

pub returns-else-variant-eq0-clause-value : goal.returns-else-variant-eq0-clause-value
returns-else-variant-eq0-clause-value g c = ap (λ rs. slice_get rs c.args.index) (later_at g.A.Column.format g.B.ColumnBank.bank (g.A.Column.content c.args.self.now.0) (g.B.ColumnBank.contents c.args.self.now.1) c.args.variant c.if-variant-eq0.false) ∙ c.value.ensures.value
