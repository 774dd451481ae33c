use Rattle.std.proofs.Common.{◌∙◌, sym, ap, length}
use Rattle.columnar_variants.specs.BankLaws.{leaf_at}
use Rattle.columnar_variants.proofs.bank.Tuple1LenBank.values_of.Goals as goal

pub returns : goal.returns
returns g c = c.len.ensures ∙ ap length (sym (leaf_at g.A.Column.format (g.A.Column.content c.args.self.now.0) c.args._variant c.requires.known))
