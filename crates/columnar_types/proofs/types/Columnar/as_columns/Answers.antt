use Rattle.std.proofs.Common.{◌++◌, ◌∷◌, []}
use Rattle.columnar_base.specs.ChangeLaws.{passed_on, took_none}
use Rattle.columnar_base.specs.ExtendLaws.{yields_more, all_last, extend_more}
use Rattle.columnar_types.specs.MadeLaws.{stopped_making}
use Rattle.columnar_types.proofs.types.Columnar.as_columns.Goals as goal

pub loop-item-init : goal.loop-item-init
loop-item-init g c = took_none c.empty-column.ensures.sound

pub push_ref-requires-clause-valid : goal.push_ref-requires-clause-valid
push_ref-requires-clause-valid g c = all_last (λ x. g.Self.Item.valid x.now) c.loop-item.yielded c.in-Some.item (c.requires.valid (c.loop-item.yielded ++ c.in-Some.item ∷ []) c.next.new.self (rw c.into_iter-item-iterator.ensures.into_iter_gives at (yields_more g.I.Iterator.next_gives c.into_iter-item-iterator.result c.loop-item.item-iterator c.next.new.self c.loop-item.yielded c.in-Some.item c.loop-item.yielded_by c.in-Some.ensures.steps)))

pub loop-item-preserved : goal.loop-item-preserved
loop-item-preserved g c = extend_more (λ x. g.Self.Item.meaning x.now) c.loop-item.yielded c.in-Some.item c.loop-item.invariant c.in_ok-push_ref.ensures.ok

pub returns-in_err-push_ref-clause-err : goal.returns-in_err-push_ref-clause-err
returns-in_err-push_ref-clause-err g c = rw (passed_on c.from_residual.result c.from_residual.ensures.1) ((c.loop-item.yielded ++ c.in-Some.item ∷ [], c.next.new.self, (rw c.into_iter-item-iterator.ensures.into_iter_gives at (yields_more g.I.Iterator.next_gives c.into_iter-item-iterator.result c.loop-item.item-iterator c.next.new.self c.loop-item.yielded c.in-Some.item c.loop-item.yielded_by c.in-Some.ensures.steps), stopped_making (λ x. g.Self.Item.meaning x.now) c.loop-item.yielded c.in-Some.item c.empty-column.ensures.sound c.empty-column.ensures.rows c.loop-item.invariant c.in_err-push_ref.ensures.err)))
