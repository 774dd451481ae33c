-- Made by .ci/widths.py: change .ci/widths/answers.template, and not this file.
use Rattle.std.proofs.Common.{[], ◌∷◌}
use Rattle.columnar_base.specs.LongTupleLaws.{tuple_sound, no_rows}
use Rattle.columnar_base.proofs.tuple.nine.Tuple9Storage.empty.Goals as goal

pub returns-clause-sound : goal.returns-clause-sound
returns-clause-sound g c = tuple_sound g.A.Column.format g.B.Column.format (g.C.Column.format ∷ g.D.Column.format ∷ g.E.Column.format ∷ g.F.Column.format ∷ g.G.Column.format ∷ g.H.Column.format ∷ g.I.Column.format ∷ []) 0 (no_rows c.empty-first.ensures.sound c.empty-first.ensures.rows, (no_rows c.empty-second.ensures.sound c.empty-second.ensures.rows, (no_rows c.empty-third.ensures.sound c.empty-third.ensures.rows, (no_rows c.empty-fourth.ensures.sound c.empty-fourth.ensures.rows, (no_rows c.empty-fifth.ensures.sound c.empty-fifth.ensures.rows, (no_rows c.empty-sixth.ensures.sound c.empty-sixth.ensures.rows, (no_rows c.empty-seventh.ensures.sound c.empty-seventh.ensures.rows, (no_rows c.empty-eighth.ensures.sound c.empty-eighth.ensures.rows, no_rows c.empty-ninth.ensures.sound c.empty-ninth.ensures.rows))))))))
