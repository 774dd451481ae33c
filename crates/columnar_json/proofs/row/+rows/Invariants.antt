use Rattle.std.proofs.Common.{◌+◌, ◌*◌}
use Rattle.columnar_core.specs.Store.{slices_in}
use Rattle.columnar_schema.specs.TypeLaws.{depth_of}
use Rattle.columnar_json.specs.ItemLaws.{Items}
use Rattle.columnar_json.specs.Stored.{stored_rows}
use Rattle.columnar_json.proofs.row.+rows.Given as goal

abbrev pub decreases-write_row : goal.decreases-write_row
decreases-write_row l = 3 * depth_of l.schema.now

abbrev pub decreases-write_between : goal.decreases-write_between
decreases-write_between l = 3 * depth_of l.schema.now + 1

abbrev pub decreases-write_items : goal.decreases-write_items
decreases-write_items l = 3 * depth_of l.schema.now + 2

abbrev pub decreases-write_fields : goal.decreases-write_fields
decreases-write_fields l = 3 * (depth_of l.field.now + depth_of l.later.now) + 1

abbrev pub decreases-write_case : goal.decreases-write_case
decreases-write_case l = 3 * depth_of l.cases.now + 1

abbrev pub decreases-write_value : goal.decreases-write_value
decreases-write_value l = 3 * depth_of l.part.now + 2

abbrev pub invariant-write_items-loop-i : goal.invariant-write_items-loop-i
invariant-write_items-loop-i l = Items l.schema (stored_rows l.schema (slices_in l.store) l.offset) l.lower l.i l.fn.out.items l.out.items
