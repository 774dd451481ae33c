use Rattle.columnar_sums.specs.UnaryBitLaws.{truths_run, run_below}
use Rattle.columnar_sums.proofs.unaries.grow.push_short.Goals as goal

pub push_word-requires-clause-below : goal.push_word-requires-clause-below
push_word-requires-clause-below c = run_below c.args.count c.requires.few

pub returns-clause-ok : goal.returns-clause-ok
returns-clause-ok c = rw (truths_run c.args.count c.requires.few) at c.push_word.ensures.ok
