use Rattle.std.proofs.Common.{arith}
use Rattle.columnar_tool.specs.ChoiceLaws.{is_shorter, is_split}
use Rattle.columnar_tool.proofs.choice.at_comma.Goals as goal

pub returns-clause-split : goal.returns-clause-split
returns-clause-split c = is_split c.split_once.result (λ p. p.0.now) (λ p. p.1.now) c.args.text.now (c.split_once.ensures.byte (omega arith) (λ w o h. h))

pub returns-clause-shorter : goal.returns-clause-shorter
returns-clause-shorter c = is_shorter c.split_once.result (λ p. p.0.now) (λ p. p.1.now) c.args.text.now (c.split_once.ensures.byte (omega arith) (λ w o h. h))
