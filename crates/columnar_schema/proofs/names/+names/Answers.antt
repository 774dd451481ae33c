use Rattle.std.proofs.Common.{◌≡◌, ◌≤◌, ◌<◌, ◌+◌, ◌*◌}
use Rattle.columnar_schema.specs.BankLaws.{later_fields_fall, other_fields_fall}
use Rattle.columnar_schema.specs.CountLaws.{later_counted, others_counted}
use Rattle.columnar_schema.proofs.names.+names.Goals as goal

pub push_fields-push_fields-requires : goal.push_fields-push_fields-requires
push_fields-push_fields-requires t c = (
  rw c.decreases at (later_fields_fall c.args.schema.now c.deref-in-Beside.result.now c.in-Beside.is c.deref-in-Beside.ensures),
  rw c.deref-in-Beside.ensures (later_counted c.args.schema.now c.in-Beside.is c.requires),
)

pub push_value-push_fields-requires : goal.push_value-push_fields-requires
push_value-push_fields-requires t c = (
  rw c.decreases at (other_fields_fall c.args.schema.now c.deref-in-Tuple.result.now c.in-Tuple.is c.deref-in-Tuple.ensures),
  rw c.deref-in-Tuple.ensures (others_counted c.args.schema.now c.in-Tuple.is c.requires),
)
