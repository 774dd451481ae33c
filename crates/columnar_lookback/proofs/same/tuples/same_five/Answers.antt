-- Made by .ci/widths.py: change .ci/widths/same_answers.template, and not this file.
use Rattle.std.proofs.Common.{[], ◌∷◌, sym, ◌∙◌}
use Rattle.columnar_base.specs.Row.{tuple}
use Rattle.columnar_base.specs.Format.{both}
use Rattle.columnar_base.specs.ChangeLaws.{slice_get_some}
use Rattle.columnar_base.specs.LongTuples.{nested}
use Rattle.columnar_base.specs.TupleLaws.{pair_parts, pair_within}
use Rattle.columnar_lookback.specs.SameLaws.{pair_then, pair_else}
use Rattle.columnar_lookback.proofs.same.tuples.same_five.Goals as goal

pub same-requires-clause-sound : goal.same-requires-clause-sound
same-requires-clause-sound g c = (pair_parts g.A.Column.format (nested g.B.Column.format (g.C.Column.format ∷ g.D.Column.format ∷ g.E.Column.format ∷ [])) c.requires.sound).left

pub same-requires-clause-in_range : goal.same-requires-clause-in_range
same-requires-clause-in_range g c = (pair_within g.A.Column.format (nested g.B.Column.format (g.C.Column.format ∷ g.D.Column.format ∷ g.E.Column.format ∷ [])) c.args.at c.requires.sound c.requires.in_range).0

pub same_four-requires-clause-sound : goal.same_four-requires-clause-sound
same_four-requires-clause-sound g c = (pair_parts g.A.Column.format (nested g.B.Column.format (g.C.Column.format ∷ g.D.Column.format ∷ g.E.Column.format ∷ [])) c.requires.sound).right

pub same_four-requires-clause-in_range : goal.same_four-requires-clause-in_range
same_four-requires-clause-in_range g c = (pair_within g.A.Column.format (nested g.B.Column.format (g.C.Column.format ∷ g.D.Column.format ∷ g.E.Column.format ∷ [])) c.args.at c.requires.sound c.requires.in_range).1

pub returns-then-same : goal.returns-then-same
returns-then-same g c =
    let l = pair_within g.A.Column.format (nested g.B.Column.format (g.C.Column.format ∷ g.D.Column.format ∷ g.E.Column.format ∷ [])) c.args.at c.requires.sound c.requires.in_range in
    let u = slice_get_some (g.A.Column.format.rows (g.A.Column.content c.args.first.now)) c.args.at l.0 in
    let v = slice_get_some ((nested g.B.Column.format (g.C.Column.format ∷ g.D.Column.format ∷ g.E.Column.format ∷ [])).rows (both (g.B.Column.content c.args.second.now) (both (g.C.Column.content c.args.third.now) (both (g.D.Column.content c.args.fourth.now) (g.E.Column.content c.args.fifth.now))))) c.args.at l.1 in
    λ r h. c.same_four.ensures v.0 v.1 ∙ pair_then g.A.Column.format.kin (nested g.B.Column.format (g.C.Column.format ∷ g.D.Column.format ∷ g.E.Column.format ∷ [])).kin _ _ c.args.at u.0 v.0 (g.P.Item.meaning c.args.p.now) (tuple (g.Q.Item.meaning c.args.q.now) (tuple (g.R.Item.meaning c.args.r.now) (tuple (g.S.Item.meaning c.args.s.now) (g.T.Item.meaning c.args.t.now)))) r u.1 v.1 h (sym c.if-same.true ∙ c.same.ensures u.0 u.1)

pub returns-else-same : goal.returns-else-same
returns-else-same g c =
    let l = pair_within g.A.Column.format (nested g.B.Column.format (g.C.Column.format ∷ g.D.Column.format ∷ g.E.Column.format ∷ [])) c.args.at c.requires.sound c.requires.in_range in
    let u = slice_get_some (g.A.Column.format.rows (g.A.Column.content c.args.first.now)) c.args.at l.0 in
    let v = slice_get_some ((nested g.B.Column.format (g.C.Column.format ∷ g.D.Column.format ∷ g.E.Column.format ∷ [])).rows (both (g.B.Column.content c.args.second.now) (both (g.C.Column.content c.args.third.now) (both (g.D.Column.content c.args.fourth.now) (g.E.Column.content c.args.fifth.now))))) c.args.at l.1 in
    λ r h. c.if-same.false ∙ pair_else g.A.Column.format.kin (nested g.B.Column.format (g.C.Column.format ∷ g.D.Column.format ∷ g.E.Column.format ∷ [])).kin _ _ c.args.at u.0 v.0 (g.P.Item.meaning c.args.p.now) (tuple (g.Q.Item.meaning c.args.q.now) (tuple (g.R.Item.meaning c.args.r.now) (tuple (g.S.Item.meaning c.args.s.now) (g.T.Item.meaning c.args.t.now)))) r u.1 v.1 h (sym c.if-same.false ∙ c.same.ensures u.0 u.1)
