-- Made by .ci/widths.py: change .ci/widths/same_answers.template, and not this file.
use Rattle.std.proofs.Common.{[], ◌∷◌, sym, ◌∙◌}
use Rattle.columnar_base.specs.Row.{tuple}
use Rattle.columnar_base.specs.Format.{both}
use Rattle.columnar_base.specs.ChangeLaws.{slice_get_some}
use Rattle.columnar_base.specs.LongTuples.{nested}
use Rattle.columnar_base.specs.LongTupleLaws.{tuple_same}
use Rattle.columnar_base.specs.TupleLaws.{pair_parts, pair_within}
use Rattle.columnar_lookback.specs.SameLaws.{pair_then, pair_else}
use Rattle.columnar_lookback.proofs.same.tuples.Tuple10SameAs.same.Goals as goal

pub same-requires-clause-sound : goal.same-requires-clause-sound
same-requires-clause-sound g c = (pair_parts g.A.Column.format (nested g.B.Column.format (g.C.Column.format ∷ g.D.Column.format ∷ g.E.Column.format ∷ g.F.Column.format ∷ g.G.Column.format ∷ g.H.Column.format ∷ g.I.Column.format ∷ g.J.Column.format ∷ [])) ((tuple_same g.A.Column.format g.B.Column.format (g.C.Column.format ∷ g.D.Column.format ∷ g.E.Column.format ∷ g.F.Column.format ∷ g.G.Column.format ∷ g.H.Column.format ∷ g.I.Column.format ∷ g.J.Column.format ∷ [])).back _ c.requires.sound)).left

pub same-requires-clause-in_range : goal.same-requires-clause-in_range
same-requires-clause-in_range g c = (pair_within g.A.Column.format (nested g.B.Column.format (g.C.Column.format ∷ g.D.Column.format ∷ g.E.Column.format ∷ g.F.Column.format ∷ g.G.Column.format ∷ g.H.Column.format ∷ g.I.Column.format ∷ g.J.Column.format ∷ [])) c.args.at ((tuple_same g.A.Column.format g.B.Column.format (g.C.Column.format ∷ g.D.Column.format ∷ g.E.Column.format ∷ g.F.Column.format ∷ g.G.Column.format ∷ g.H.Column.format ∷ g.I.Column.format ∷ g.J.Column.format ∷ [])).back _ c.requires.sound) c.requires.in_range).0

pub same_nine-requires-clause-sound : goal.same_nine-requires-clause-sound
same_nine-requires-clause-sound g c = (pair_parts g.A.Column.format (nested g.B.Column.format (g.C.Column.format ∷ g.D.Column.format ∷ g.E.Column.format ∷ g.F.Column.format ∷ g.G.Column.format ∷ g.H.Column.format ∷ g.I.Column.format ∷ g.J.Column.format ∷ [])) ((tuple_same g.A.Column.format g.B.Column.format (g.C.Column.format ∷ g.D.Column.format ∷ g.E.Column.format ∷ g.F.Column.format ∷ g.G.Column.format ∷ g.H.Column.format ∷ g.I.Column.format ∷ g.J.Column.format ∷ [])).back _ c.requires.sound)).right

pub same_nine-requires-clause-in_range : goal.same_nine-requires-clause-in_range
same_nine-requires-clause-in_range g c = (pair_within g.A.Column.format (nested g.B.Column.format (g.C.Column.format ∷ g.D.Column.format ∷ g.E.Column.format ∷ g.F.Column.format ∷ g.G.Column.format ∷ g.H.Column.format ∷ g.I.Column.format ∷ g.J.Column.format ∷ [])) c.args.at ((tuple_same g.A.Column.format g.B.Column.format (g.C.Column.format ∷ g.D.Column.format ∷ g.E.Column.format ∷ g.F.Column.format ∷ g.G.Column.format ∷ g.H.Column.format ∷ g.I.Column.format ∷ g.J.Column.format ∷ [])).back _ c.requires.sound) c.requires.in_range).1

pub returns-then-same : goal.returns-then-same
returns-then-same g c =
    let l = pair_within g.A.Column.format (nested g.B.Column.format (g.C.Column.format ∷ g.D.Column.format ∷ g.E.Column.format ∷ g.F.Column.format ∷ g.G.Column.format ∷ g.H.Column.format ∷ g.I.Column.format ∷ g.J.Column.format ∷ [])) c.args.at ((tuple_same g.A.Column.format g.B.Column.format (g.C.Column.format ∷ g.D.Column.format ∷ g.E.Column.format ∷ g.F.Column.format ∷ g.G.Column.format ∷ g.H.Column.format ∷ g.I.Column.format ∷ g.J.Column.format ∷ [])).back _ c.requires.sound) c.requires.in_range in
    let u = slice_get_some (g.A.Column.format.rows (g.A.Column.content c.args.self.now.0)) c.args.at l.0 in
    let v = slice_get_some ((nested g.B.Column.format (g.C.Column.format ∷ g.D.Column.format ∷ g.E.Column.format ∷ g.F.Column.format ∷ g.G.Column.format ∷ g.H.Column.format ∷ g.I.Column.format ∷ g.J.Column.format ∷ [])).rows (both (g.B.Column.content c.args.self.now.1) (both (g.C.Column.content c.args.self.now.2) (both (g.D.Column.content c.args.self.now.3) (both (g.E.Column.content c.args.self.now.4) (both (g.F.Column.content c.args.self.now.5) (both (g.G.Column.content c.args.self.now.6) (both (g.H.Column.content c.args.self.now.7) (both (g.I.Column.content c.args.self.now.8) (g.J.Column.content c.args.self.now.9)))))))))) c.args.at l.1 in
    λ r h. c.same_nine.ensures v.0 v.1 ∙ pair_then g.A.Column.format.kin (nested g.B.Column.format (g.C.Column.format ∷ g.D.Column.format ∷ g.E.Column.format ∷ g.F.Column.format ∷ g.G.Column.format ∷ g.H.Column.format ∷ g.I.Column.format ∷ g.J.Column.format ∷ [])).kin _ _ c.args.at u.0 v.0 (g.P.Item.meaning c.args.item.now.0) (tuple (g.Q.Item.meaning c.args.item.now.1) (tuple (g.R.Item.meaning c.args.item.now.2) (tuple (g.S.Item.meaning c.args.item.now.3) (tuple (g.T.Item.meaning c.args.item.now.4) (tuple (g.U.Item.meaning c.args.item.now.5) (tuple (g.V.Item.meaning c.args.item.now.6) (tuple (g.W.Item.meaning c.args.item.now.7) (tuple (g.X.Item.meaning c.args.item.now.8) (g.Y.Item.meaning c.args.item.now.9))))))))) r u.1 v.1 h (sym c.if-same.true ∙ c.same.ensures u.0 u.1)

pub returns-else-same : goal.returns-else-same
returns-else-same g c =
    let l = pair_within g.A.Column.format (nested g.B.Column.format (g.C.Column.format ∷ g.D.Column.format ∷ g.E.Column.format ∷ g.F.Column.format ∷ g.G.Column.format ∷ g.H.Column.format ∷ g.I.Column.format ∷ g.J.Column.format ∷ [])) c.args.at ((tuple_same g.A.Column.format g.B.Column.format (g.C.Column.format ∷ g.D.Column.format ∷ g.E.Column.format ∷ g.F.Column.format ∷ g.G.Column.format ∷ g.H.Column.format ∷ g.I.Column.format ∷ g.J.Column.format ∷ [])).back _ c.requires.sound) c.requires.in_range in
    let u = slice_get_some (g.A.Column.format.rows (g.A.Column.content c.args.self.now.0)) c.args.at l.0 in
    let v = slice_get_some ((nested g.B.Column.format (g.C.Column.format ∷ g.D.Column.format ∷ g.E.Column.format ∷ g.F.Column.format ∷ g.G.Column.format ∷ g.H.Column.format ∷ g.I.Column.format ∷ g.J.Column.format ∷ [])).rows (both (g.B.Column.content c.args.self.now.1) (both (g.C.Column.content c.args.self.now.2) (both (g.D.Column.content c.args.self.now.3) (both (g.E.Column.content c.args.self.now.4) (both (g.F.Column.content c.args.self.now.5) (both (g.G.Column.content c.args.self.now.6) (both (g.H.Column.content c.args.self.now.7) (both (g.I.Column.content c.args.self.now.8) (g.J.Column.content c.args.self.now.9)))))))))) c.args.at l.1 in
    λ r h. c.if-same.false ∙ pair_else g.A.Column.format.kin (nested g.B.Column.format (g.C.Column.format ∷ g.D.Column.format ∷ g.E.Column.format ∷ g.F.Column.format ∷ g.G.Column.format ∷ g.H.Column.format ∷ g.I.Column.format ∷ g.J.Column.format ∷ [])).kin _ _ c.args.at u.0 v.0 (g.P.Item.meaning c.args.item.now.0) (tuple (g.Q.Item.meaning c.args.item.now.1) (tuple (g.R.Item.meaning c.args.item.now.2) (tuple (g.S.Item.meaning c.args.item.now.3) (tuple (g.T.Item.meaning c.args.item.now.4) (tuple (g.U.Item.meaning c.args.item.now.5) (tuple (g.V.Item.meaning c.args.item.now.6) (tuple (g.W.Item.meaning c.args.item.now.7) (tuple (g.X.Item.meaning c.args.item.now.8) (g.Y.Item.meaning c.args.item.now.9))))))))) r u.1 v.1 h (sym c.if-same.false ∙ c.same.ensures u.0 u.1)
