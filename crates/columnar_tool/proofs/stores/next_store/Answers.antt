use Rattle.std.proofs.Common.{ap, arith, length, length-append}
use Rattle.columnar_bytes.specs.StreamLaws.{one_has_bytes, one_more, stores_none}
use Rattle.columnar_tool.proofs.stores.next_store.Goals as goal

pub returns-in-Ok-clause-stores : goal.returns-in-Ok-clause-stores
returns-in-Ok-clause-stores c = (one_more c.args.bytes.now c.in-Ok.store.now c.in-Ok.after.now c.in-Ok.ensures.begins c.in-Ok.ensures.parts).0

pub returns-in-Ok-clause-rest : goal.returns-in-Ok-clause-rest
returns-in-Ok-clause-rest c = (one_more c.args.bytes.now c.in-Ok.store.now c.in-Ok.after.now c.in-Ok.ensures.begins c.in-Ok.ensures.parts).1

pub returns-in-Ok-clause-shorter : goal.returns-in-Ok-clause-shorter
returns-in-Ok-clause-shorter c = omega (arith, one_has_bytes c.in-Ok.store.now c.in-Ok.ensures.first, ap length c.in-Ok.ensures.joined, length-append c.in-Ok.store.now c.in-Ok.after.now)

pub returns-in-Err-clause-none : goal.returns-in-Err-clause-none
returns-in-Err-clause-none c = (stores_none c.args.bytes.now c.in-Err.ensures.none).0

pub returns-in-Err-clause-torn : goal.returns-in-Err-clause-torn
returns-in-Err-clause-torn c = (stores_none c.args.bytes.now c.in-Err.ensures.none).1
