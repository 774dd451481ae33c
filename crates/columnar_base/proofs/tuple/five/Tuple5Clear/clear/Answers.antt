-- Made by .ci/widths.py: change .ci/widths/answers.template, and not this file.
use Rattle.std.proofs.Common.{[], ◌∷◌}
use Rattle.columnar_base.specs.LongTupleLaws.{tuple_sound, no_rows}
use Rattle.columnar_base.specs.RoomLaws.{pair_frees}
use Rattle.columnar_base.specs.LongTuples.{nested}
use Rattle.columnar_base.specs.EntryLaws.{tuple_frees}
use Rattle.columnar_base.proofs.tuple.five.Tuple5Clear.clear.Goals as goal

pub returns-clause-sound : goal.returns-clause-sound
returns-clause-sound g c = tuple_sound g.A.Column.format g.B.Column.format (g.C.Column.format ∷ g.D.Column.format ∷ g.E.Column.format ∷ []) 0 (no_rows c.clear.ensures.sound c.clear.ensures.rows, (no_rows c.clear-2.ensures.sound c.clear-2.ensures.rows, (no_rows c.clear-3.ensures.sound c.clear-3.ensures.rows, (no_rows c.clear-4.ensures.sound c.clear-4.ensures.rows, no_rows c.clear-5.ensures.sound c.clear-5.ensures.rows))))

pub returns-clause-freed : goal.returns-clause-freed
returns-clause-freed g c = tuple_frees g.A.Column.format g.B.Column.format (g.C.Column.format ∷ g.D.Column.format ∷ g.E.Column.format ∷ []) 0 (pair_frees g.A.Column.format (nested g.B.Column.format (g.C.Column.format ∷ g.D.Column.format ∷ g.E.Column.format ∷ [])) 0 c.clear.ensures.freed (pair_frees g.B.Column.format (nested g.C.Column.format (g.D.Column.format ∷ g.E.Column.format ∷ [])) 0 c.clear-2.ensures.freed (pair_frees g.C.Column.format (nested g.D.Column.format (g.E.Column.format ∷ [])) 0 c.clear-3.ensures.freed (pair_frees g.D.Column.format (nested g.E.Column.format ([])) 0 c.clear-4.ensures.freed c.clear-5.ensures.freed))))
