use Rattle.columnar_primitive.specs.StrideLaws.{strides_no_rows}
use Rattle.columnar_primitive.proofs.offsets.strides.StridesVecU64ArrayU642Clear.clear.Goals as goal

pub returns-clause-rows : goal.returns-clause-rows
returns-clause-rows c = rw (c.clear.ensures.head, c.clear.ensures.bounds) strides_no_rows
