use Rattle.columnar_schema.specs.TypeLaws.{depth_of}
use Rattle.columnar_schema.proofs.cases.+have_values.Given as goal

abbrev pub decreases-have_values : goal.decreases-have_values
decreases-have_values l = depth_of l.cases.now
