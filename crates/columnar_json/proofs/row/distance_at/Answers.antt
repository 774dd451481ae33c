use Rattle.columnar_json.specs.LookbackRowLaws.{distance_read}
use Rattle.columnar_json.proofs.row.distance_at.Goals as goal

pub returns : goal.returns
returns c = distance_read _ _ c.row_in.ensures.row c.row_in.type_inv
