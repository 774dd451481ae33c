use Rattle.columnar_variants.specs.FrontLaws.{below_bytes}
use Rattle.columnar_schema.proofs.cases.are_bytes.Goals as goal

pub returns : goal.returns
returns c = below_bytes c.args._variants.now (λ i. (c.type_inv._variants i).fits)
