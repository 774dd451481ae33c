use Rattle.std.proofs.Common.{ap}
use Rattle.columnar_base.specs.Solos.{solos}
use Rattle.columnar_base.specs.SoloLaws.{solo_sound}
use Rattle.columnar_base.specs.RoomLaws.{solo_frees}
use Rattle.columnar_base.proofs.tuple.one.Tuple1Clear.clear.Goals as goal

pub returns-clause-sound : goal.returns-clause-sound
returns-clause-sound g c = solo_sound g.A.Column.format c.clear.ensures.sound

pub returns-clause-rows : goal.returns-clause-rows
returns-clause-rows g c = ap solos c.clear.ensures.rows

pub returns-clause-freed : goal.returns-clause-freed
returns-clause-freed g c = solo_frees g.A.Column.format 0 c.clear.ensures.freed
