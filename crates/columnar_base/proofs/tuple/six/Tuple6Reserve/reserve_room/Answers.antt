-- Made by .ci/widths.py: change .ci/widths/answers.template, and not this file.
use Rattle.std.proofs.Common.{[], ◌∷◌}
use Rattle.columnar_base.specs.LongTupleLaws.{tuple_parts, tuple_stayed}
use Rattle.columnar_base.specs.RoomLaws.{both_covered, on_earlier}
use Rattle.columnar_base.proofs.tuple.six.Tuple6Reserve.reserve_room.Goals as goal

pub reserve_room-done-requires : goal.reserve_room-done-requires
reserve_room-done-requires g c = (tuple_parts g.A.Column.format g.B.Column.format (g.C.Column.format ∷ g.D.Column.format ∷ g.E.Column.format ∷ g.F.Column.format ∷ []) c.requires).0.sound

pub reserve_after-done-requires-clause-sound : goal.reserve_after-done-requires-clause-sound
reserve_after-done-requires-clause-sound g c = (tuple_parts g.A.Column.format g.B.Column.format (g.C.Column.format ∷ g.D.Column.format ∷ g.E.Column.format ∷ g.F.Column.format ∷ []) c.requires).1.0.sound

pub reserve_after-done-requires-2-clause-sound : goal.reserve_after-done-requires-2-clause-sound
reserve_after-done-requires-2-clause-sound g c = (tuple_parts g.A.Column.format g.B.Column.format (g.C.Column.format ∷ g.D.Column.format ∷ g.E.Column.format ∷ g.F.Column.format ∷ []) c.requires).1.1.0.sound

pub reserve_after-done-requires-3-clause-sound : goal.reserve_after-done-requires-3-clause-sound
reserve_after-done-requires-3-clause-sound g c = (tuple_parts g.A.Column.format g.B.Column.format (g.C.Column.format ∷ g.D.Column.format ∷ g.E.Column.format ∷ g.F.Column.format ∷ []) c.requires).1.1.1.0.sound

pub reserve_after-done-requires-4-clause-sound : goal.reserve_after-done-requires-4-clause-sound
reserve_after-done-requires-4-clause-sound g c = (tuple_parts g.A.Column.format g.B.Column.format (g.C.Column.format ∷ g.D.Column.format ∷ g.E.Column.format ∷ g.F.Column.format ∷ []) c.requires).1.1.1.1.0.sound

pub reserve_after-requires-clause-sound : goal.reserve_after-requires-clause-sound
reserve_after-requires-clause-sound g c = (tuple_parts g.A.Column.format g.B.Column.format (g.C.Column.format ∷ g.D.Column.format ∷ g.E.Column.format ∷ g.F.Column.format ∷ []) c.requires).1.1.1.1.1.sound

pub returns-clause-stayed : goal.returns-clause-stayed
returns-clause-stayed g c = tuple_stayed g.A.Column.format g.B.Column.format (g.C.Column.format ∷ g.D.Column.format ∷ g.E.Column.format ∷ g.F.Column.format ∷ []) c.requires (c.reserve_room-done.ensures.stayed, (c.reserve_after-done.ensures.stayed, (c.reserve_after-done-2.ensures.stayed, (c.reserve_after-done-3.ensures.stayed, (c.reserve_after-done-4.ensures.stayed, c.reserve_after.ensures.stayed)))))

pub returns-clause-room : goal.returns-clause-room
returns-clause-room g c = both_covered _ _ _ _ _ _ c.reserve_after.result (on_earlier _ c.reserve_after.result c.reserve_after-done-4.result c.reserve_after.ensures.earlier (on_earlier _ c.reserve_after-done-4.result c.reserve_after-done-3.result c.reserve_after-done-4.ensures.earlier (on_earlier _ c.reserve_after-done-3.result c.reserve_after-done-2.result c.reserve_after-done-3.ensures.earlier (on_earlier _ c.reserve_after-done-2.result c.reserve_after-done.result c.reserve_after-done-2.ensures.earlier (on_earlier _ c.reserve_after-done.result c.reserve_room-done.result c.reserve_after-done.ensures.earlier c.reserve_room-done.ensures.room))))) (both_covered _ _ _ _ _ _ c.reserve_after.result (on_earlier _ c.reserve_after.result c.reserve_after-done-4.result c.reserve_after.ensures.earlier (on_earlier _ c.reserve_after-done-4.result c.reserve_after-done-3.result c.reserve_after-done-4.ensures.earlier (on_earlier _ c.reserve_after-done-3.result c.reserve_after-done-2.result c.reserve_after-done-3.ensures.earlier (on_earlier _ c.reserve_after-done-2.result c.reserve_after-done.result c.reserve_after-done-2.ensures.earlier c.reserve_after-done.ensures.room)))) (both_covered _ _ _ _ _ _ c.reserve_after.result (on_earlier _ c.reserve_after.result c.reserve_after-done-4.result c.reserve_after.ensures.earlier (on_earlier _ c.reserve_after-done-4.result c.reserve_after-done-3.result c.reserve_after-done-4.ensures.earlier (on_earlier _ c.reserve_after-done-3.result c.reserve_after-done-2.result c.reserve_after-done-3.ensures.earlier c.reserve_after-done-2.ensures.room))) (both_covered _ _ _ _ _ _ c.reserve_after.result (on_earlier _ c.reserve_after.result c.reserve_after-done-4.result c.reserve_after.ensures.earlier (on_earlier _ c.reserve_after-done-4.result c.reserve_after-done-3.result c.reserve_after-done-4.ensures.earlier c.reserve_after-done-3.ensures.room)) (both_covered _ _ _ _ _ _ c.reserve_after.result (on_earlier _ c.reserve_after.result c.reserve_after-done-4.result c.reserve_after.ensures.earlier c.reserve_after-done-4.ensures.room) c.reserve_after.ensures.room))))
