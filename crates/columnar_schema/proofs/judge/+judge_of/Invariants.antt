use Rattle.columnar_schema.specs.TypeLaws.{depth_of}
use Rattle.columnar_schema.proofs.judge.+judge_of.Given as goal

abbrev pub decreases-judge_of : goal.decreases-judge_of
decreases-judge_of g l = depth_of l.schema.now
