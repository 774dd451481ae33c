-- Made by .ci/widths.py: change .ci/widths/same_answers.template, and not this file.
use Rattle.std.proofs.Common.{[], ◌∷◌, sym, ◌∙◌}
use Rattle.columnar_base.specs.Row.{tuple}
use Rattle.columnar_base.specs.Format.{both}
use Rattle.columnar_base.specs.ChangeLaws.{slice_get_some}
use Rattle.columnar_base.specs.LongTuples.{nested}
use Rattle.columnar_base.specs.TupleLaws.{pair_parts, pair_within}
use Rattle.columnar_lookback.specs.SameLaws.{pair_then, pair_else}
use Rattle.columnar_lookback.proofs.same.tuples.same_nine.Goals as goal

pub same-requires-clause-sound : goal.same-requires-clause-sound
same-requires-clause-sound g c = (pair_parts g.A.Column.format (nested g.B.Column.format (g.C.Column.format ∷ g.D.Column.format ∷ g.E.Column.format ∷ g.F.Column.format ∷ g.G.Column.format ∷ g.H.Column.format ∷ g.I.Column.format ∷ [])) c.requires.sound).left

pub same-requires-clause-in_range : goal.same-requires-clause-in_range
same-requires-clause-in_range g c = (pair_within g.A.Column.format (nested g.B.Column.format (g.C.Column.format ∷ g.D.Column.format ∷ g.E.Column.format ∷ g.F.Column.format ∷ g.G.Column.format ∷ g.H.Column.format ∷ g.I.Column.format ∷ [])) c.args.at c.requires.sound c.requires.in_range).0

pub same_eight-requires-clause-sound : goal.same_eight-requires-clause-sound
same_eight-requires-clause-sound g c = (pair_parts g.A.Column.format (nested g.B.Column.format (g.C.Column.format ∷ g.D.Column.format ∷ g.E.Column.format ∷ g.F.Column.format ∷ g.G.Column.format ∷ g.H.Column.format ∷ g.I.Column.format ∷ [])) c.requires.sound).right

pub same_eight-requires-clause-in_range : goal.same_eight-requires-clause-in_range
same_eight-requires-clause-in_range g c = (pair_within g.A.Column.format (nested g.B.Column.format (g.C.Column.format ∷ g.D.Column.format ∷ g.E.Column.format ∷ g.F.Column.format ∷ g.G.Column.format ∷ g.H.Column.format ∷ g.I.Column.format ∷ [])) c.args.at c.requires.sound c.requires.in_range).1

pub returns-then-same : goal.returns-then-same
returns-then-same g c =
    let l = pair_within g.A.Column.format (nested g.B.Column.format (g.C.Column.format ∷ g.D.Column.format ∷ g.E.Column.format ∷ g.F.Column.format ∷ g.G.Column.format ∷ g.H.Column.format ∷ g.I.Column.format ∷ [])) c.args.at c.requires.sound c.requires.in_range in
    let u = slice_get_some (g.A.Column.format.rows (g.A.Column.content c.args.first.now)) c.args.at l.0 in
    let v = slice_get_some ((nested g.B.Column.format (g.C.Column.format ∷ g.D.Column.format ∷ g.E.Column.format ∷ g.F.Column.format ∷ g.G.Column.format ∷ g.H.Column.format ∷ g.I.Column.format ∷ [])).rows (both (g.B.Column.content c.args.second.now) (both (g.C.Column.content c.args.third.now) (both (g.D.Column.content c.args.fourth.now) (both (g.E.Column.content c.args.fifth.now) (both (g.F.Column.content c.args.sixth.now) (both (g.G.Column.content c.args.seventh.now) (both (g.H.Column.content c.args.eighth.now) (g.I.Column.content c.args.ninth.now))))))))) c.args.at l.1 in
    λ r h. c.same_eight.ensures v.0 v.1 ∙ pair_then g.A.Column.format.kin (nested g.B.Column.format (g.C.Column.format ∷ g.D.Column.format ∷ g.E.Column.format ∷ g.F.Column.format ∷ g.G.Column.format ∷ g.H.Column.format ∷ g.I.Column.format ∷ [])).kin _ _ c.args.at u.0 v.0 (g.P.Item.meaning c.args.p.now) (tuple (g.Q.Item.meaning c.args.q.now) (tuple (g.R.Item.meaning c.args.r.now) (tuple (g.S.Item.meaning c.args.s.now) (tuple (g.T.Item.meaning c.args.t.now) (tuple (g.U.Item.meaning c.args.u.now) (tuple (g.V.Item.meaning c.args.v.now) (tuple (g.W.Item.meaning c.args.w.now) (g.X.Item.meaning c.args.x.now)))))))) r u.1 v.1 h (sym c.if-same.true ∙ c.same.ensures u.0 u.1)

pub returns-else-same : goal.returns-else-same
returns-else-same g c =
    let l = pair_within g.A.Column.format (nested g.B.Column.format (g.C.Column.format ∷ g.D.Column.format ∷ g.E.Column.format ∷ g.F.Column.format ∷ g.G.Column.format ∷ g.H.Column.format ∷ g.I.Column.format ∷ [])) c.args.at c.requires.sound c.requires.in_range in
    let u = slice_get_some (g.A.Column.format.rows (g.A.Column.content c.args.first.now)) c.args.at l.0 in
    let v = slice_get_some ((nested g.B.Column.format (g.C.Column.format ∷ g.D.Column.format ∷ g.E.Column.format ∷ g.F.Column.format ∷ g.G.Column.format ∷ g.H.Column.format ∷ g.I.Column.format ∷ [])).rows (both (g.B.Column.content c.args.second.now) (both (g.C.Column.content c.args.third.now) (both (g.D.Column.content c.args.fourth.now) (both (g.E.Column.content c.args.fifth.now) (both (g.F.Column.content c.args.sixth.now) (both (g.G.Column.content c.args.seventh.now) (both (g.H.Column.content c.args.eighth.now) (g.I.Column.content c.args.ninth.now))))))))) c.args.at l.1 in
    λ r h. c.if-same.false ∙ pair_else g.A.Column.format.kin (nested g.B.Column.format (g.C.Column.format ∷ g.D.Column.format ∷ g.E.Column.format ∷ g.F.Column.format ∷ g.G.Column.format ∷ g.H.Column.format ∷ g.I.Column.format ∷ [])).kin _ _ c.args.at u.0 v.0 (g.P.Item.meaning c.args.p.now) (tuple (g.Q.Item.meaning c.args.q.now) (tuple (g.R.Item.meaning c.args.r.now) (tuple (g.S.Item.meaning c.args.s.now) (tuple (g.T.Item.meaning c.args.t.now) (tuple (g.U.Item.meaning c.args.u.now) (tuple (g.V.Item.meaning c.args.v.now) (tuple (g.W.Item.meaning c.args.w.now) (g.X.Item.meaning c.args.x.now)))))))) r u.1 v.1 h (sym c.if-same.false ∙ c.same.ensures u.0 u.1)
