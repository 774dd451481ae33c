-- Made by .ci/widths.py: change .ci/widths/by_refs_answers.template, and not this file.
use Rattle.std.proofs.Common.{[], ◌∷◌, refl}
use Rattle.columnar_base.specs.LongTupleLaws.{tuple_same, refused_if_err}
use Rattle.columnar_base.specs.EntryLaws.{took_on_ok}
use Rattle.columnar_own.proofs.by_refs.ByRefsTuple9RefRefRefRefRefRefRefRefRefPushIntoTuple9.push_into.Goals as goal

pub enter_nine-requires-clause-sound : goal.enter_nine-requires-clause-sound
enter_nine-requires-clause-sound g c = (tuple_same g.A.Column.format g.B.Column.format (g.C.Column.format ∷ g.D.Column.format ∷ g.E.Column.format ∷ g.F.Column.format ∷ g.G.Column.format ∷ g.H.Column.format ∷ g.I.Column.format ∷ [])).back _ c.requires.sound

pub enter_nine-requires-clause-level : goal.enter_nine-requires-clause-level
enter_nine-requires-clause-level g c = (refl, refl, (refl, refl, (refl, refl, (refl, refl, (refl, refl, (refl, refl, (refl, refl, (refl, refl, tt))))))))

pub enter_nine-requires-clause-valid : goal.enter_nine-requires-clause-valid
enter_nine-requires-clause-valid g c = c.requires.valid

pub returns-clause-ok : goal.returns-clause-ok
returns-clause-ok g c = took_on_ok g.A.Column.format g.B.Column.format (g.C.Column.format ∷ g.D.Column.format ∷ g.E.Column.format ∷ g.F.Column.format ∷ g.G.Column.format ∷ g.H.Column.format ∷ g.I.Column.format ∷ []) _ _ _ c.enter_nine.result c.enter_nine.ensures.ok

pub returns-clause-err : goal.returns-clause-err
returns-clause-err g c = refused_if_err g.A.Column.format g.B.Column.format (g.C.Column.format ∷ g.D.Column.format ∷ g.E.Column.format ∷ g.F.Column.format ∷ g.G.Column.format ∷ g.H.Column.format ∷ g.I.Column.format ∷ []) _ _ _ c.enter_nine.result c.enter_nine.ensures.err
