-- Made by .ci/widths.py: change .ci/widths/answers.template, and not this file.
use Rattle.std.proofs.Common.{[], ◌∷◌}
use Rattle.columnar_base.specs.LongTuples.{nested}
use Rattle.columnar_base.specs.RoomLaws.{pair_adds_room}
use Rattle.columnar_base.specs.EntryLaws.{tuple_adds_room}
use Rattle.columnar_core.proofs.tuple.seven.Tuple7ExtendFrom.add_room.Goals as goal

pub returns : goal.returns
returns g c = tuple_adds_room g.P.Column.format g.Q.Column.format (g.R.Column.format ∷ g.S.Column.format ∷ g.T.Column.format ∷ g.U.Column.format ∷ g.V.Column.format ∷ []) (pair_adds_room g.P.Column.format (nested g.Q.Column.format (g.R.Column.format ∷ g.S.Column.format ∷ g.T.Column.format ∷ g.U.Column.format ∷ g.V.Column.format ∷ [])) c.add_room.ensures (pair_adds_room g.Q.Column.format (nested g.R.Column.format (g.S.Column.format ∷ g.T.Column.format ∷ g.U.Column.format ∷ g.V.Column.format ∷ [])) c.add_room-2.ensures (pair_adds_room g.R.Column.format (nested g.S.Column.format (g.T.Column.format ∷ g.U.Column.format ∷ g.V.Column.format ∷ [])) c.add_room-3.ensures (pair_adds_room g.S.Column.format (nested g.T.Column.format (g.U.Column.format ∷ g.V.Column.format ∷ [])) c.add_room-4.ensures (pair_adds_room g.T.Column.format (nested g.U.Column.format (g.V.Column.format ∷ [])) c.add_room-5.ensures (pair_adds_room g.U.Column.format (nested g.V.Column.format ([])) c.add_room-6.ensures c.add_room-7.ensures))))))
