use Rattle.std.proofs.Common.{◌++◌, ◌∷◌, []}
use Rattle.columnar_base.specs.ChangeLaws.{passed_on}
use Rattle.columnar_base.specs.ExtendLaws.{yields_more, all_last, extend_more, extend_stopped}
use Rattle.columnar_base.specs.RoomLaws.{leaves_more, full_more}
use Rattle.columnar_base.proofs.traits.Push.extend.Goals as goal

pub push-requires-clause-valid : goal.push-requires-clause-valid
push-requires-clause-valid g c = all_last g.T.Item.valid c.loop-item.yielded c.in-Some.item (c.requires.valid (c.loop-item.yielded ++ c.in-Some.item ∷ []) c.next.new.self (rw c.into_iter-item-iterator.ensures.into_iter_gives at (yields_more g.I.Iterator.next_gives c.into_iter-item-iterator.result c.loop-item.item-iterator c.next.new.self c.loop-item.yielded c.in-Some.item c.loop-item.yielded_by c.in-Some.ensures.steps)))

pub loop-item-preserved : goal.loop-item-preserved
loop-item-preserved g c = (extend_more g.T.Item.meaning c.loop-item.yielded c.in-Some.item c.loop-item.invariant.0 c.in_ok-push.ensures.ok, leaves_more g.T.Item.meaning c.loop-item.yielded c.in-Some.item c.loop-item.invariant.1 c.in_ok-push.ensures.left)

pub returns-in_err-push-clause-err : goal.returns-in_err-push-clause-err
returns-in_err-push-clause-err g c = rw (passed_on c.from_residual.result c.from_residual.ensures.1) ((c.loop-item.yielded ++ c.in-Some.item ∷ [], c.next.new.self, (rw c.into_iter-item-iterator.ensures.into_iter_gives at (yields_more g.I.Iterator.next_gives c.into_iter-item-iterator.result c.loop-item.item-iterator c.next.new.self c.loop-item.yielded c.in-Some.item c.loop-item.yielded_by c.in-Some.ensures.steps), extend_stopped g.T.Item.meaning c.loop-item.yielded c.in-Some.item c.loop-item.invariant.0 c.in_err-push.ensures.err)))

pub returns-in_err-push-clause-wanted : goal.returns-in_err-push-clause-wanted
returns-in_err-push-clause-wanted g c = λ k. rw (passed_on c.from_residual.result c.from_residual.ensures.1) ((c.loop-item.yielded ++ c.in-Some.item ∷ [], c.next.new.self, (rw c.into_iter-item-iterator.ensures.into_iter_gives at (yields_more g.I.Iterator.next_gives c.into_iter-item-iterator.result c.loop-item.item-iterator c.next.new.self c.loop-item.yielded c.in-Some.item c.loop-item.yielded_by c.in-Some.ensures.steps), (extend_stopped g.T.Item.meaning c.loop-item.yielded c.in-Some.item c.loop-item.invariant.0 c.in_err-push.ensures.err, full_more g.T.Item.meaning c.loop-item.yielded c.in-Some.item c.loop-item.invariant.1 (c.in_err-push.ensures.wanted k)))))
