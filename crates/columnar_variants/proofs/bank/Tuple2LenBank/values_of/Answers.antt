use Rattle.std.proofs.Common.{◌∙◌, sym, ap, length}
use Rattle.columnar_variants.specs.BankLaws.{first_at, later_at}
use Rattle.columnar_variants.specs.VariantLaws.{beside_parts}
use Rattle.columnar_variants.proofs.bank.Tuple2LenBank.values_of.Goals as goal

pub len-requires : goal.len-requires
len-requires g c = (beside_parts g.A.Column.format g.B.ColumnBank.bank.sides c.requires.sound).0

pub values_of-requires-clause-sound : goal.values_of-requires-clause-sound
values_of-requires-clause-sound g c = (beside_parts g.A.Column.format g.B.ColumnBank.bank.sides c.requires.sound).1

pub returns-then-variant-eq0 : goal.returns-then-variant-eq0
returns-then-variant-eq0 g c = c.len.ensures ∙ ap length (sym (first_at g.A.Column.format g.B.ColumnBank.bank (g.A.Column.content c.args.self.now.0) (g.B.ColumnBank.contents c.args.self.now.1) c.args.variant c.if-variant-eq0.true))

pub returns-else-variant-eq0 : goal.returns-else-variant-eq0
returns-else-variant-eq0 g c = c.values_of.ensures ∙ ap length (sym (later_at g.A.Column.format g.B.ColumnBank.bank (g.A.Column.content c.args.self.now.0) (g.B.ColumnBank.contents c.args.self.now.1) c.args.variant c.if-variant-eq0.false))
