use Rattle.std.proofs.Common.{◌+◌, length, ap}
use Rattle.std.specs.Prelude.{Err}
use Rattle.columnar_bits.specs.BoolColumns.{owned_bits}
use Rattle.columnar_sums.specs.UnaryRoomLaws.{wanted_few}
use Rattle.columnar_sums.proofs.unaries.grow.push_word.Goals as goal

pub returns-in-Err-clause-wanted : goal.returns-in-Err-clause-wanted
returns-in-Err-clause-wanted c = wanted_few (length (owned_bits c.args.values.now) + c.args.count) _ c.in-Err.ensures.kinds (λ e. c.in-Err.ensures.length (ap Err e)) (λ e. c.in-Err.ensures.wanted (ap Err e))
