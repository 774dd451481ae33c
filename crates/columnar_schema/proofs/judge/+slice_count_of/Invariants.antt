use Rattle.columnar_schema.specs.TypeLaws.{depth_of}
use Rattle.columnar_schema.proofs.judge.+slice_count_of.Given as goal

abbrev pub decreases-slice_count_of : goal.decreases-slice_count_of
decreases-slice_count_of l = depth_of l.schema.now
