use Rattle.columnar_lists.specs.PieceLaws.{rises_exactly}
use Rattle.columnar_lists.proofs.laws.cut_where_bounds_rise.Goals as goal

pub returns : goal.returns
returns c = rises_exactly
