use Rattle.std.proofs.Common.{arith}
use Rattle.std.proofs.Common.{◌/◌}
use Rattle.columnar_primitive.specs.StrideLaws.{sound_at, strides_fine, too_many_at}
use Rattle.columnar_primitive.proofs.offsets.strides.fault_in.Goals as goal

pub returns-in-Some-checked_add : goal.returns-in-Some-checked_add
returns-in-Some-checked_add g c = strides_fine (g.HC.Words.bytes c.args.head.now) (g.BC.Words.bytes c.args.bounds.now) c.args.from (sound_at (g.HC.Words.bytes c.args.head.now) (g.BC.Words.bytes c.args.bounds.now) c.word.result c.word-length.result (c.size-3.result / 8) (omega arith) (omega arith) c.word.ensures c.word-length.ensures (omega arith) c.in-Some.ensures.0 c.in-Some-checked_add.ensures.0)

pub returns-in-None-checked_add : goal.returns-in-None-checked_add
returns-in-None-checked_add g c = too_many_at (g.HC.Words.bytes c.args.head.now) (g.BC.Words.bytes c.args.bounds.now) c.args.from c.word.result c.word-length.result (c.size-3.result / 8) (omega arith) (omega arith) c.word.ensures c.word-length.ensures (omega arith) c.in-Some.ensures.0 c.in-None-checked_add.ensures
