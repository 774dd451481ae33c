use Rattle.columnar_tool.specs.StoreLaws.{is_none, passing_all, passing_more, passing_stopped, passing_torn}
use Rattle.columnar_tool.proofs.stores.cat_stores.Goals as goal

pub loop-rest-preserved : goal.loop-rest-preserved
loop-rest-preserved g c = passing_more c.args.view.now c.args.kind.now.schema c.args.bytes.now c.loop-rest.rest.now c.in-Ok.store.now c.in-Ok.after.now c.loop-rest.number (g.O.WriteBytes.contents c.args.out.now) (g.O.WriteBytes.contents c.loop-rest.out) (g.O.WriteBytes.contents c.cat_bytes.new.out) c.loop-rest.invariant c.in-Ok.ensures.stores c.in-Ok.ensures.rest c.in-Ok.ensures.shorter c.in-Ok-cat_bytes.ensures.accepted c.in-Ok-cat_bytes.ensures.printed

pub returns-in-Err-cat_bytes-clause-stopped : goal.returns-in-Err-cat_bytes-clause-stopped
returns-in-Err-cat_bytes-clause-stopped g c = passing_stopped c.args.view.now c.args.kind.now.schema c.args.bytes.now c.loop-rest.rest.now c.in-Ok.store.now c.in-Ok.after.now c.loop-rest.number c.in-Err-cat_bytes.stop (g.O.WriteBytes.contents c.args.out.now) (g.O.WriteBytes.contents c.loop-rest.out) (g.O.WriteBytes.contents c.cat_bytes.new.out) c.loop-rest.invariant c.in-Ok.ensures.stores c.in-Err-cat_bytes.ensures.stopped

pub returns-in-Err-clause-stopped : goal.returns-in-Err-clause-stopped
returns-in-Err-clause-stopped g c = passing_torn c.args.view.now c.args.kind.now.schema c.args.bytes.now c.loop-rest.rest.now c.loop-rest.number c.in-Err.fault (g.O.WriteBytes.contents c.args.out.now) (g.O.WriteBytes.contents c.loop-rest.out) c.loop-rest.invariant c.in-Err.ensures.none c.in-Err.ensures.torn c.in-Err.ensures.fault

pub returns-clause-accepted : goal.returns-clause-accepted
returns-clause-accepted g c = (passing_all c.args.view.now c.args.kind.now.schema c.args.bytes.now c.loop-rest.rest.now c.loop-rest.number (g.O.WriteBytes.contents c.args.out.now) (g.O.WriteBytes.contents c.loop-rest.out) c.loop-rest.invariant (is_none c.loop-rest.rest.now c.is_empty.result c.is_empty.ensures c.loop-rest-test.false)).0

pub returns-clause-printed : goal.returns-clause-printed
returns-clause-printed g c = (passing_all c.args.view.now c.args.kind.now.schema c.args.bytes.now c.loop-rest.rest.now c.loop-rest.number (g.O.WriteBytes.contents c.args.out.now) (g.O.WriteBytes.contents c.loop-rest.out) c.loop-rest.invariant (is_none c.loop-rest.rest.now c.is_empty.result c.is_empty.ensures c.loop-rest-test.false)).1
