-- Made by .ci/widths.py: change .ci/widths/answers.template, and not this file.
use Rattle.std.proofs.Common.{[], ◌∷◌}
use Rattle.columnar_base.specs.LongTupleLaws.{tuple_same}
use Rattle.columnar_base.specs.EntryLaws.{tuple_pieces, views_level, copied_on_ok, copy_refused, copied_leaves, copied_full}
use Rattle.columnar_core.proofs.tuple.seven.Tuple7ExtendFrom.extend_from_self.Goals as goal

pub enter_seven-requires-clause-sound : goal.enter_seven-requires-clause-sound
enter_seven-requires-clause-sound g c = (tuple_same g.A.Column.format g.B.Column.format (g.C.Column.format ∷ g.D.Column.format ∷ g.E.Column.format ∷ g.F.Column.format ∷ g.G.Column.format ∷ [])).back _ c.requires.sound

pub enter_seven-requires-clause-valid : goal.enter_seven-requires-clause-valid
enter_seven-requires-clause-valid g c = tuple_pieces g.P.Column.format g.Q.Column.format (g.R.Column.format ∷ g.S.Column.format ∷ g.T.Column.format ∷ g.U.Column.format ∷ g.V.Column.format ∷ []) c.args.range.start c.args.range.«end» c.requires.view_sound c.requires.ordered c.requires.in_range

pub enter_seven-requires-clause-level : goal.enter_seven-requires-clause-level
enter_seven-requires-clause-level g c = views_level g.P.Column.format g.Q.Column.format (g.R.Column.format ∷ g.S.Column.format ∷ g.T.Column.format ∷ g.U.Column.format ∷ g.V.Column.format ∷ []) c.args.range.start c.args.range.«end» c.requires.view_sound

pub returns-clause-ok : goal.returns-clause-ok
returns-clause-ok g c = copied_on_ok g.A.Column.format g.B.Column.format (g.C.Column.format ∷ g.D.Column.format ∷ g.E.Column.format ∷ g.F.Column.format ∷ g.G.Column.format ∷ []) _ _ g.P.Column.format g.Q.Column.format (g.R.Column.format ∷ g.S.Column.format ∷ g.T.Column.format ∷ g.U.Column.format ∷ g.V.Column.format ∷ []) c.args.range.start c.args.range.«end» c.requires.view_sound c.enter_seven.result c.enter_seven.ensures.ok

pub returns-clause-err : goal.returns-clause-err
returns-clause-err g c = copy_refused g.A.Column.format g.B.Column.format (g.C.Column.format ∷ g.D.Column.format ∷ g.E.Column.format ∷ g.F.Column.format ∷ g.G.Column.format ∷ []) _ _ g.P.Column.format g.Q.Column.format (g.R.Column.format ∷ g.S.Column.format ∷ g.T.Column.format ∷ g.U.Column.format ∷ g.V.Column.format ∷ []) c.args.range.start c.args.range.«end» c.requires.view_sound c.enter_seven.result c.enter_seven.ensures.err

pub returns-clause-left : goal.returns-clause-left
returns-clause-left g c = copied_leaves _ _ g.P.Column.format g.Q.Column.format (g.R.Column.format ∷ g.S.Column.format ∷ g.T.Column.format ∷ g.U.Column.format ∷ g.V.Column.format ∷ []) c.args.range.start c.args.range.«end» c.requires.view_sound c.enter_seven.result c.enter_seven.ensures.left

pub returns-clause-wanted : goal.returns-clause-wanted
returns-clause-wanted g c = copied_full _ g.P.Column.format g.Q.Column.format (g.R.Column.format ∷ g.S.Column.format ∷ g.T.Column.format ∷ g.U.Column.format ∷ g.V.Column.format ∷ []) c.args.range.start c.args.range.«end» c.requires.view_sound c.enter_seven.result (c.enter_seven.ensures.wanted (tt, (tt, (tt, (tt, (tt, (tt, tt)))))))
