use Rattle.columnar_primitive.specs.FixedLaws.{fixed_none, fixed_no_rows}
use Rattle.columnar_primitive.proofs.offsets.fixeds.FixedsU64Storage.empty.Goals as goal

pub returns-clause-sound : goal.returns-clause-sound
returns-clause-sound g c = fixed_none g.row.K

pub returns-clause-rows : goal.returns-clause-rows
returns-clause-rows g c = fixed_no_rows g.row.K
