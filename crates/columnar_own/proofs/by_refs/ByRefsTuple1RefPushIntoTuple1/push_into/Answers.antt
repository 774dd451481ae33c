use Rattle.std.proofs.Common.{[], ◌∷◌}
use Rattle.columnar_base.specs.SoloLaws.{solo_part, solo_took_on_ok, solo_refused_if_err}
use Rattle.columnar_own.proofs.by_refs.ByRefsTuple1RefPushIntoTuple1.push_into.Goals as goal

pub push_ref-requires-clause-sound : goal.push_ref-requires-clause-sound
push_ref-requires-clause-sound g c = solo_part g.A.Column.format c.requires.sound

pub returns-clause-ok : goal.returns-clause-ok
returns-clause-ok g c = solo_took_on_ok g.A.Column.format _ _ (g.P.Item.meaning c.args.self.0.0.now ∷ []) c.push_ref.result c.push_ref.ensures.ok

pub returns-clause-err : goal.returns-clause-err
returns-clause-err g c = solo_refused_if_err g.A.Column.format _ _ (g.P.Item.meaning c.args.self.0.0.now ∷ []) c.push_ref.result c.push_ref.ensures.err
