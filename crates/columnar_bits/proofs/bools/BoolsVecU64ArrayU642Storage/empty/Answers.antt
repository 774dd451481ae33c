use Rattle.std.proofs.Common.{ap, map}
use Rattle.columnar_core.specs.Row.{truth}
use Rattle.columnar_bits.proofs.bools.BoolsVecU64ArrayU642Storage.empty.Goals as goal

pub returns-clause-rows : goal.returns-clause-rows
returns-clause-rows c = ap (map truth) c.no_bits.ensures.bits
