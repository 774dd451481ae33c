use Rattle.columnar_lists.specs.PieceLaws.{rises_any}
use Rattle.columnar_lists.proofs.laws.offsets_cut_any_values.Goals as goal

pub returns : goal.returns
returns c = rises_any
