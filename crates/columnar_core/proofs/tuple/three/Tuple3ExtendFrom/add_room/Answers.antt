-- Made by .ci/widths.py: change .ci/widths/answers.template, and not this file.
use Rattle.std.proofs.Common.{[], ◌∷◌}
use Rattle.columnar_base.specs.LongTuples.{nested}
use Rattle.columnar_base.specs.RoomLaws.{pair_adds_room}
use Rattle.columnar_base.specs.EntryLaws.{tuple_adds_room}
use Rattle.columnar_core.proofs.tuple.three.Tuple3ExtendFrom.add_room.Goals as goal

pub returns : goal.returns
returns g c = tuple_adds_room g.P.Column.format g.Q.Column.format (g.R.Column.format ∷ []) (pair_adds_room g.P.Column.format (nested g.Q.Column.format (g.R.Column.format ∷ [])) c.add_room.ensures (pair_adds_room g.Q.Column.format (nested g.R.Column.format ([])) c.add_room-2.ensures c.add_room-3.ensures))
