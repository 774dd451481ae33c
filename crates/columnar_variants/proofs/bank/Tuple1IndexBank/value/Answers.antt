use Rattle.std.proofs.Common.{◌∙◌, ap}
use Rattle.std.specs.Prelude.{slice_get}
use Rattle.columnar_variants.specs.BankLaws.{leaf_at}
use Rattle.columnar_variants.proofs.bank.Tuple1IndexBank.value.Goals as goal

pub get-requires-clause-in_range : goal.get-requires-clause-in_range
get-requires-clause-in_range g c = rw (leaf_at g.A.Column.format (g.A.Column.content c.args.self.now.0) c.args._variant c.requires.known) at c.requires.in_range

pub returns-clause-value : goal.returns-clause-value
returns-clause-value g c = ap (λ rs. slice_get rs c.args.index) (leaf_at g.A.Column.format (g.A.Column.content c.args.self.now.0) c.args._variant c.requires.known) ∙ c.get.ensures.row
