use Rattle.std.proofs.Common.{map, arith}
use Rattle.columnar_base.specs.ChangeLaws.{took_more}
use Rattle.columnar_base.specs.RoomLaws.{leaves_next, items_full}
use Rattle.columnar_base.specs.ExtendLaws.{item_row_at, items_refused}
use Rattle.columnar_base.proofs.traits.PushRef.push_slice.Goals as goal

pub loop-i-preserved : goal.loop-i-preserved
loop-i-preserved g c =
    let r = item_row_at g.T.Item.meaning c.args.items.now c.loop-i.i c.index-items-i.result c.loop-i-test.true c.index-items-i.is in
    (took_more (map g.T.Item.meaning c.args.items.now) 0 c.loop-i.i (g.T.Item.meaning c.index-items-i.result) (omega arith) r c.loop-i.invariant.0 c.in-Ok.ensures.ok, leaves_next (map g.T.Item.meaning c.args.items.now) 0 c.loop-i.i (g.T.Item.meaning c.index-items-i.result) (omega arith) r c.loop-i.invariant.1 c.in-Ok.ensures.left)

pub returns-in-Err-clause-err : goal.returns-in-Err-clause-err
returns-in-Err-clause-err g c = items_refused g.T.Item.meaning c.args.items.now c.loop-i.i c.index-items-i.result g.met.Self.Truncate.lawful c.requires.sound c.loop-i-test.true c.index-items-i.is c.loop-i.invariant.0 c.in-Err.ensures.err (rw c.len-before.ensures at c.truncate.ensures.cut)

pub returns-in-Err-clause-wanted : goal.returns-in-Err-clause-wanted
returns-in-Err-clause-wanted g c = λ k. items_full g.T.Item.meaning c.args.items.now c.loop-i.i c.index-items-i.result c.loop-i-test.true c.index-items-i.is c.loop-i.invariant.1 (c.in-Err.ensures.wanted k)
