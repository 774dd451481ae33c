use Rattle.std.proofs.Common.{sym}
use Rattle.columnar_base.specs.SoloLaws.{solo_part, onlies-solos}
use Rattle.columnar_own.proofs.fields.field_of_one.Goals as goal

pub returns-clause-sound : goal.returns-clause-sound
returns-clause-sound g c = solo_part g.A.Column.format c.requires

pub returns-clause-rows : goal.returns-clause-rows
returns-clause-rows g c = sym (onlies-solos _)
