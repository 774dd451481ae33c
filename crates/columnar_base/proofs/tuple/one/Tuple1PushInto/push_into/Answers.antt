use Rattle.std.proofs.Common.{[], ◌∷◌}
use Rattle.columnar_base.specs.SoloLaws.{solo_part, solo_took_on_ok, solo_refused_if_err}
use Rattle.columnar_base.proofs.tuple.one.Tuple1PushInto.push_into.Goals as goal

pub push-requires-clause-sound : goal.push-requires-clause-sound
push-requires-clause-sound g c = solo_part g.A.Column.format c.requires.sound

pub returns-clause-ok : goal.returns-clause-ok
returns-clause-ok g c = solo_took_on_ok g.A.Column.format _ _ (g.P.Item.meaning c.args.self.0 ∷ []) c.push.result c.push.ensures.ok

pub returns-clause-err : goal.returns-clause-err
returns-clause-err g c = solo_refused_if_err g.A.Column.format _ _ (g.P.Item.meaning c.args.self.0 ∷ []) c.push.result c.push.ensures.err
