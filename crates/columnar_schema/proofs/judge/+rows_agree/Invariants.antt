use Rattle.columnar_schema.specs.TypeLaws.{depth_of}
use Rattle.columnar_schema.proofs.judge.+rows_agree.Given as goal

abbrev pub decreases-rows_agree : goal.decreases-rows_agree
decreases-rows_agree l = depth_of l.schema.now
