use Rattle.std.proofs.Common.{length, arith}
use Rattle.columnar_base.specs.DigitLaws.{digits_from}
use Rattle.columnar_sums.proofs.rank_select.search.find_chunk.Goals as goal

pub returns-then-span-eq7-clause-cost : goal.returns-then-span-eq7-clause-cost
returns-then-span-eq7-clause-cost g c = let eleven = digits_from 11 (length c.args.counts.now) (omega arith) (omega arith) in omega arith

pub returns-then-span-eq7-clause-turns : goal.returns-then-span-eq7-clause-turns
returns-then-span-eq7-clause-turns g c = let eleven = digits_from 11 (length c.args.counts.now) (omega arith) (omega arith) in omega arith
