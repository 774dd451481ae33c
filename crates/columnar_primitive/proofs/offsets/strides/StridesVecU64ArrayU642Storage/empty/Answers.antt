use Rattle.columnar_primitive.specs.StrideLaws.{strides_no_rows}
use Rattle.columnar_primitive.proofs.offsets.strides.StridesVecU64ArrayU642Storage.empty.Goals as goal

pub returns-clause-rows : goal.returns-clause-rows
returns-clause-rows c = rw (c.new.ensures.head, c.new.ensures.bounds) strides_no_rows
