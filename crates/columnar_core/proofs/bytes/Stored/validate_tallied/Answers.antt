use Rattle.std.proofs.Common.{drop, arith, length-drop}
use Rattle.columnar_base.specs.HeldLaws.{turns_held}
use Rattle.columnar_core.specs.Store.{slices_in}
use Rattle.columnar_core.proofs.bytes.Stored.validate_tallied.Goals as goal

pub returns-in_err-judge_tallied-clause-turns : goal.returns-in_err-judge_tallied-clause-turns
returns-in_err-judge_tallied-clause-turns g c = turns_held g.Self.Column.format (drop c.args.offset.now (slices_in c.args.store.now)) _ _ g.met.Self.Stored.storable (omega (arith, length-drop c.args.offset.now (slices_in c.args.store.now), c.slice_count-count.ensures)) c.judge_tallied.ensures.turns

pub returns-clause-turns : goal.returns-clause-turns
returns-clause-turns g c = turns_held g.Self.Column.format (drop c.args.offset.now (slices_in c.args.store.now)) _ _ g.met.Self.Stored.storable (omega (arith, length-drop c.args.offset.now (slices_in c.args.store.now), c.slice_count-count.ensures)) c.judge_tallied.ensures.turns
