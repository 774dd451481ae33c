use Rattle.std.proofs.Common.{arith}
use Rattle.columnar_primitive.specs.UnitLaws.{number_cut}
use Rattle.columnar_primitive.proofs.empties.EmptiesU64Truncate.truncate.Goals as goal

pub returns-clause-cut : goal.returns-clause-cut
returns-clause-cut c = number_cut c.args.self.now.count c.args.n (omega (arith, c.ranges.n)) c.requires.in_range
