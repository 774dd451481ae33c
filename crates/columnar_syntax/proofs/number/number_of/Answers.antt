use Rattle.columnar_syntax.specs.NumberLaws.{digits_text}
use Rattle.columnar_syntax.proofs.number.number_of.Goals as goal

pub returns-in_default-clause-none : goal.returns-in_default-clause-none
returns-in_default-clause-none c n l w = c.in_default.ensures.cases.0 (digits_text c.args.word.now w.0.1)
