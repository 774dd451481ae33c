use Rattle.std.proofs.Common.{◌+◌, ◌*◌}
use Rattle.columnar_schema.specs.TypeLaws.{depth_of}
use Rattle.columnar_schema.proofs.names.+names.Given as goal

abbrev pub decreases-push_name : goal.decreases-push_name
decreases-push_name l = 4 * depth_of l.schema.now

abbrev pub decreases-push_unnamed : goal.decreases-push_unnamed
decreases-push_unnamed l = 4 * depth_of l.schema.now + 1

abbrev pub decreases-push_fields : goal.decreases-push_fields
decreases-push_fields l = 4 * depth_of l.schema.now + 2

abbrev pub decreases-push_value : goal.decreases-push_value
decreases-push_value l = 4 * depth_of l.schema.now + 3
