use Rattle.columnar_schema.specs.TypeLaws.{depth_of}
use Rattle.columnar_json.proofs.fields.+write_later.Given as goal

abbrev pub decreases-write_later : goal.decreases-write_later
decreases-write_later l = depth_of l.schema.now
