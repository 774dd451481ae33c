use Rattle.columnar_nested.specs.PassLaws.{accepts_rule, rule_accepts}
use Rattle.columnar_nested.proofs.laws.rule_in_one_walk.Goals as goal

pub returns : goal.returns
returns c = λ groups bounds n. (accepts_rule groups bounds n, rule_accepts groups bounds n)
