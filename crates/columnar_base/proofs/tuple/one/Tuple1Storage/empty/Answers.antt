use Rattle.std.proofs.Common.{ap}
use Rattle.columnar_base.specs.Solos.{solos}
use Rattle.columnar_base.specs.SoloLaws.{solo_sound}
use Rattle.columnar_base.proofs.tuple.one.Tuple1Storage.empty.Goals as goal

pub returns-clause-sound : goal.returns-clause-sound
returns-clause-sound g c = solo_sound g.A.Column.format c.empty.ensures.sound

pub returns-clause-rows : goal.returns-clause-rows
returns-clause-rows g c = ap solos c.empty.ensures.rows
