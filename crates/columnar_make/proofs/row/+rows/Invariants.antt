use Rattle.std.proofs.Common.{◌+◌, ◌*◌}
use Rattle.columnar_schema.specs.TypeLaws.{depth_of}
use Rattle.columnar_make.proofs.row.+rows.Given as goal

abbrev pub decreases-push_row : goal.decreases-push_row
decreases-push_row l = 4 * depth_of l.schema.now + 3

abbrev pub decreases-push_object : goal.decreases-push_object
decreases-push_object l = 4 * depth_of l.schema.now + 2

abbrev pub decreases-push_fields : goal.decreases-push_fields
decreases-push_fields l = 4 * depth_of l.schema.now + 1

abbrev pub decreases-push_list : goal.decreases-push_list
decreases-push_list l = 4 * depth_of l.values.now + 4

abbrev pub decreases-push_result : goal.decreases-push_result
decreases-push_result l = 4 * (depth_of l.values.now + depth_of l.errors.now) + 4

abbrev pub decreases-push_places : goal.decreases-push_places
decreases-push_places l = 4 * (depth_of l.first.now + depth_of l.others.now) + 4

abbrev pub decreases-push_repeated : goal.decreases-push_repeated
decreases-push_repeated l = 4 * depth_of l.values.now + 4

abbrev pub decreases-push_recalled : goal.decreases-push_recalled
decreases-push_recalled l = 4 * depth_of l.values.now + 4

abbrev pub decreases-push_sum : goal.decreases-push_sum
decreases-push_sum l = 4 * depth_of l.cases.now + 5

abbrev pub decreases-push_case : goal.decreases-push_case
decreases-push_case l = 4 * depth_of l.cases.now + 4
