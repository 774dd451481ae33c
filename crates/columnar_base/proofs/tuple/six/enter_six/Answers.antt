-- Made by .ci/widths.py: change .ci/widths/answers.template, and not this file.
use Rattle.std.proofs.Common.{[], ◌∷◌}
use Rattle.columnar_base.specs.ChangeLaws.{passed_on}
use Rattle.columnar_base.specs.EntryLaws.{first_sound, others_sound, next_entered, first_refused, others_refused, next_leaves, first_full, others_full}
use Rattle.columnar_base.specs.Room.{pair_room}
use Rattle.columnar_base.proofs.tuple.six.enter_six.Goals.{in-Ok, in-Err}
use Rattle.columnar_base.proofs.tuple.six.enter_six.Goals as goal

pub len-before-requires : goal.len-before-requires
len-before-requires g c = first_sound g.A.Column.format g.B.Column.format (g.C.Column.format ∷ g.D.Column.format ∷ g.E.Column.format ∷ g.F.Column.format ∷ []) c.requires.sound

pub enter-requires-clause-sound : goal.enter-requires-clause-sound
enter-requires-clause-sound g c = first_sound g.A.Column.format g.B.Column.format (g.C.Column.format ∷ g.D.Column.format ∷ g.E.Column.format ∷ g.F.Column.format ∷ []) c.requires.sound

pub enter_five-requires-clause-sound : goal.enter_five-requires-clause-sound
enter_five-requires-clause-sound g c = others_sound g.A.Column.format g.B.Column.format (g.C.Column.format ∷ g.D.Column.format ∷ g.E.Column.format ∷ g.F.Column.format ∷ []) c.requires.sound

pub enter_five-requires-clause-level : goal.enter_five-requires-clause-level
enter_five-requires-clause-level g c = c.requires.level.2

pub enter-requires-clause-valid : goal.enter-requires-clause-valid
enter-requires-clause-valid g c = c.requires.valid.0

pub enter_five-requires-clause-valid : goal.enter_five-requires-clause-valid
enter_five-requires-clause-valid g c = c.requires.valid.1

pub returns-in_err-enter-clause-err : goal.returns-in_err-enter-clause-err
returns-in_err-enter-clause-err g c = rw (passed_on c.from_residual.result c.from_residual.ensures.1) (first_refused g.A.Column.format g.B.Column.format (g.C.Column.format ∷ g.D.Column.format ∷ g.E.Column.format ∷ g.F.Column.format ∷ []) (g.P.Enter.entry c.args.p) (g.Q.Enter.entry c.args.q) (g.R.Enter.entry c.args.r ∷ g.S.Enter.entry c.args.s ∷ g.T.Enter.entry c.args.t ∷ g.U.Enter.entry c.args.u ∷ []) c.requires.sound c.requires.level c.in_err-enter.ensures.err)

pub returns-clause-ok : goal.returns-clause-ok
returns-clause-ok g c = elim c.match-enter_five.branch [ in-Ok w ↦ rw (w.result-is, w.first-is) (next_entered g.A.Column.format g.B.Column.format (g.C.Column.format ∷ g.D.Column.format ∷ g.E.Column.format ∷ g.F.Column.format ∷ []) (g.P.Enter.entry c.args.p) (g.Q.Enter.entry c.args.q) (g.R.Enter.entry c.args.r ∷ g.S.Enter.entry c.args.s ∷ g.T.Enter.entry c.args.t ∷ g.U.Enter.entry c.args.u ∷ []) c.requires.sound c.requires.level c.in_ok-enter.ensures.ok w.in-Ok.ensures.ok) | in-Err w ↦ rw w.result-is tt ]

pub returns-clause-err : goal.returns-clause-err
returns-clause-err g c = elim c.match-enter_five.branch [ in-Ok w ↦ rw w.result-is tt | in-Err w ↦ rw (w.result-is, w.first-is, w.taken_back.ensures.error) (others_refused g.A.Column.format g.B.Column.format (g.C.Column.format ∷ g.D.Column.format ∷ g.E.Column.format ∷ g.F.Column.format ∷ []) (g.P.Enter.entry c.args.p) (g.Q.Enter.entry c.args.q) (g.R.Enter.entry c.args.r ∷ g.S.Enter.entry c.args.s ∷ g.T.Enter.entry c.args.t ∷ g.U.Enter.entry c.args.u ∷ []) g.met.A.Truncate.lawful c.requires.sound c.requires.level c.in_ok-enter.ensures.ok (rw c.len-before.ensures at w.taken_back.ensures.cut) w.in-Err.ensures.err) ]

pub returns-in_err-enter-clause-wanted : goal.returns-in_err-enter-clause-wanted
returns-in_err-enter-clause-wanted g c = λ k. rw (passed_on c.from_residual.result c.from_residual.ensures.1) (first_full (pair_room (g.B.Column.room c.args.second.now) (pair_room (g.C.Column.room c.args.third.now) (pair_room (g.D.Column.room c.args.fourth.now) (pair_room (g.E.Column.room c.args.fifth.now) (g.F.Column.room c.args.sixth.now))))) (g.P.Enter.entry c.args.p) (g.Q.Enter.entry c.args.q) (g.R.Enter.entry c.args.r ∷ g.S.Enter.entry c.args.s ∷ g.T.Enter.entry c.args.t ∷ g.U.Enter.entry c.args.u ∷ []) c.requires.level (c.in_err-enter.ensures.wanted k.0))

pub returns-clause-left : goal.returns-clause-left
returns-clause-left g c = elim c.match-enter_five.branch [ in-Ok w ↦ rw (w.result-is, w.first-is) (next_leaves (g.P.Enter.entry c.args.p) (g.Q.Enter.entry c.args.q) (g.R.Enter.entry c.args.r ∷ g.S.Enter.entry c.args.s ∷ g.T.Enter.entry c.args.t ∷ g.U.Enter.entry c.args.u ∷ []) c.requires.level c.in_ok-enter.ensures.left w.in-Ok.ensures.left) | in-Err w ↦ rw w.result-is tt ]

pub returns-clause-wanted : goal.returns-clause-wanted
returns-clause-wanted g c = λ k. elim c.match-enter_five.branch [ in-Ok w ↦ rw w.result-is tt | in-Err w ↦ rw (w.result-is, w.taken_back.ensures.error) (others_full (g.A.Column.room c.args.first.now) (g.P.Enter.entry c.args.p) (g.Q.Enter.entry c.args.q) (g.R.Enter.entry c.args.r ∷ g.S.Enter.entry c.args.s ∷ g.T.Enter.entry c.args.t ∷ g.U.Enter.entry c.args.u ∷ []) c.requires.level (w.in-Err.ensures.wanted k.1)) ]
