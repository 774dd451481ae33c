use Rattle.columnar_schema.specs.TypeLaws.{depth_of}
use Rattle.columnar_schema.proofs.cases.+cases_of.Given as goal

abbrev pub decreases-cases_of : goal.decreases-cases_of
decreases-cases_of l = depth_of l.cases.now
