use Rattle.columnar_variants.specs.VariantLaws.{leaf_stayed}
use Rattle.columnar_variants.proofs.bank.grow.Tuple1ReserveBank.reserve_columns.Goals as goal

pub returns-clause-stayed : goal.returns-clause-stayed
returns-clause-stayed g c = leaf_stayed g.A.Column.format c.reserve_room.ensures.stayed
