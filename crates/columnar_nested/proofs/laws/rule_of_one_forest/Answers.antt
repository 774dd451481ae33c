use Rattle.columnar_nested.specs.LayoutLaws.{rule_one, one_rule}
use Rattle.columnar_nested.proofs.laws.rule_of_one_forest.Goals as goal

pub returns : goal.returns
returns c = λ groups bounds values. (λ r. rule_one {values = values} r, λ o. one_rule {values = values} o)
