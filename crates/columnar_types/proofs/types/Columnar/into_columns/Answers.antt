use Rattle.std.proofs.Common.{◌++◌, ◌∷◌, []}
use Rattle.columnar_base.specs.ChangeLaws.{passed_on, took_none}
use Rattle.columnar_base.specs.ExtendLaws.{yields_more, all_last, extend_more}
use Rattle.columnar_types.specs.MadeLaws.{stopped_making}
use Rattle.columnar_types.proofs.types.Columnar.into_columns.Goals as goal

pub loop-value-init : goal.loop-value-init
loop-value-init g c = took_none c.empty-column.ensures.sound

pub push_ref-requires-clause-valid : goal.push_ref-requires-clause-valid
push_ref-requires-clause-valid g c = all_last g.Self.Item.valid c.loop-value.yielded c.in-Some.value (c.requires.valid (c.loop-value.yielded ++ c.in-Some.value ∷ []) c.next.new.self (rw c.into_iter-value-iterator.ensures.into_iter_gives at (yields_more g.I.Iterator.next_gives c.into_iter-value-iterator.result c.loop-value.value-iterator c.next.new.self c.loop-value.yielded c.in-Some.value c.loop-value.yielded_by c.in-Some.ensures.steps)))

pub loop-value-preserved : goal.loop-value-preserved
loop-value-preserved g c = extend_more g.Self.Item.meaning c.loop-value.yielded c.in-Some.value c.loop-value.invariant c.in_ok-push_ref.ensures.ok

pub returns-in_err-push_ref-clause-err : goal.returns-in_err-push_ref-clause-err
returns-in_err-push_ref-clause-err g c = rw (passed_on c.from_residual.result c.from_residual.ensures.1) ((c.loop-value.yielded ++ c.in-Some.value ∷ [], c.next.new.self, (rw c.into_iter-value-iterator.ensures.into_iter_gives at (yields_more g.I.Iterator.next_gives c.into_iter-value-iterator.result c.loop-value.value-iterator c.next.new.self c.loop-value.yielded c.in-Some.value c.loop-value.yielded_by c.in-Some.ensures.steps), stopped_making g.Self.Item.meaning c.loop-value.yielded c.in-Some.value c.empty-column.ensures.sound c.empty-column.ensures.rows c.loop-value.invariant c.in_err-push_ref.ensures.err)))
