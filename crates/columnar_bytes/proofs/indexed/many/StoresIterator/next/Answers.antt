use Rattle.std.proofs.Common.{ap, arith, length}
use Rattle.columnar_bytes.specs.StreamLaws.{one_more, stores_none}
use Rattle.columnar_bytes.proofs.indexed.many.StoresIterator.next.Goals as goal

pub returns-in-Ok-clause-steps : goal.returns-in-Ok-clause-steps
returns-in-Ok-clause-steps c = (one_more c.args.self.now.bytes.now c.in-Ok.first.now c.in-Ok.rest.now c.in-Ok.ensures.begins c.in-Ok.ensures.parts).0

pub returns-in-Ok-clause-goes : goal.returns-in-Ok-clause-goes
returns-in-Ok-clause-goes c =
    let e = ap length (one_more c.args.self.now.bytes.now c.in-Ok.first.now c.in-Ok.rest.now c.in-Ok.ensures.begins c.in-Ok.ensures.parts).0 in
    record { on = λ f. (tt, tt, omega (arith, e)); keeps = tt; rests = λ f. tt }

pub returns-in-Err-clause-steps : goal.returns-in-Err-clause-steps
returns-in-Err-clause-steps c = let h = (stores_none c.args.self.now.bytes.now c.in-Err.ensures.none).0 in (h, h)
