use Rattle.columnar_schema.specs.TypeLaws.{depth_of}
use Rattle.columnar_json.proofs.chosen.+write_named.Given as goal

abbrev pub decreases-write_named : goal.decreases-write_named
decreases-write_named l = depth_of l.schema.now
