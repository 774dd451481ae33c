use Rattle.columnar_bits.specs.BitLaws.{cleared_low, cleared_high}
use Rattle.columnar_sums.proofs.rank_select.cursor.cleared_below.Goals as goal

pub returns-clause-low : goal.returns-clause-low
returns-clause-low c = λ j l. cleared_low c.args.word c.args.count j c.requires l

pub returns-clause-high : goal.returns-clause-high
returns-clause-high c = λ j l m. cleared_high c.args.word c.args.count j l m
