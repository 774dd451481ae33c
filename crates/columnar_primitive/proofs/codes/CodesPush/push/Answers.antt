use Rattle.std.proofs.Common.{refl}
use Rattle.std.proofs.lemmas.Bool.{and_from}
use Rattle.std.proofs.lemmas.Result.{on_ok_weaker}
use Rattle.columnar_primitive.specs.MappedLaws.{mapped_took}
use Rattle.std.proofs.lemmas.Result.{IfErr-weaker}
use Rattle.columnar_base.specs.RoomLaws.{counted_leaves, counted_full}
use Rattle.columnar_primitive.proofs.codes.CodesPush.push.Goals as goal

pub returns-clause-ok : goal.returns-clause-ok
returns-clause-ok g c = rw c.code.ensures.row at (on_ok_weaker c.push.result (mapped_took g.CV.Column.format g.T.Coded.row_of g.T.Rule.is_code g.met.CV.Flat.flat c.requires.sound (and_from _ _ c.code.ensures.fits refl)) c.push.ensures.ok)

pub returns-clause-wanted : goal.returns-clause-wanted
returns-clause-wanted g c = λ _. IfErr-weaker c.push.result _ _ (λ e h. counted_full _ _ refl (g.met.CV.CountedRoom.counted_room c.args.self.now.values) h) (c.push.ensures.wanted c.code.ensures.unbuffered)

pub returns-clause-left : goal.returns-clause-left
returns-clause-left g c = on_ok_weaker c.push.result (λ h. counted_leaves _ _ refl (g.met.CV.CountedRoom.counted_room c.args.self.now.values) h) c.push.ensures.left
