use Rattle.std.proofs.Common.{ap}
use Rattle.columnar_base.specs.Elements.{bytes_format}
use Rattle.columnar_lookback.proofs.lookbacks.VecU8Distances.distances_in.Goals as goal

pub returns : goal.returns
returns c = ap bytes_format.rows c.from_store.ensures.content
