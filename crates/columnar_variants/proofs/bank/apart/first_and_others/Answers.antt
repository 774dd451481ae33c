use Rattle.columnar_variants.specs.VariantLaws.{beside_parts}
use Rattle.columnar_variants.proofs.bank.apart.first_and_others.Goals as goal

pub returns-clause-first : goal.returns-clause-first
returns-clause-first g c = (beside_parts g.A.Column.format g.B.ColumnBank.bank.sides c.requires).0

pub returns-clause-others : goal.returns-clause-others
returns-clause-others g c = (beside_parts g.A.Column.format g.B.ColumnBank.bank.sides c.requires).1
