use Rattle.std.proofs.Common.{◌+◌, ◌*◌}
use Rattle.columnar_schema.specs.TypeLaws.{depth_of}
use Rattle.columnar_json.proofs.value.+values.Given as goal

abbrev pub decreases-write_value : goal.decreases-write_value
decreases-write_value l = 3 * depth_of l.schema.now

abbrev pub decreases-write_case : goal.decreases-write_case
decreases-write_case l = 3 * depth_of l.cases.now + 1
