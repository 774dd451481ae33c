use Rattle.std.proofs.Common.{arith}
use Rattle.columnar_primitive.specs.StrideLaws.{stride_at, bound_at, bound_within}
use Rattle.columnar_primitive.proofs.offsets.strides.StridesIndex.get.Goals as goal

pub overflow_mul-result : goal.overflow_mul-result
overflow_mul-result g c = let p = (stride_at (g.HC.Words.bytes c.args.self.now.head) (g.BC.Words.bytes c.args.self.now.bounds) c.args.index c.word-stride.result c.word-length.result c.requires.sound c.word-stride.ensures c.word-length.ensures c.if-index-length.true).0 in omega arith

pub overflow_add-result : goal.overflow_add-result
overflow_add-result g c = let p = (stride_at (g.HC.Words.bytes c.args.self.now.head) (g.BC.Words.bytes c.args.self.now.bounds) c.args.index c.word-stride.result c.word-length.result c.requires.sound c.word-stride.ensures c.word-length.ensures c.if-index-length.true).0 in omega arith

pub returns-then-index-length-clause-row : goal.returns-then-index-length-clause-row
returns-then-index-length-clause-row g c = (stride_at (g.HC.Words.bytes c.args.self.now.head) (g.BC.Words.bytes c.args.self.now.bounds) c.args.index c.word-stride.result c.word-length.result c.requires.sound c.word-stride.ensures c.word-length.ensures c.if-index-length.true).1

pub word-requires : goal.word-requires
word-requires g c = bound_within (g.HC.Words.bytes c.args.self.now.head) (g.BC.Words.bytes c.args.self.now.bounds) c.args.index c.word-length.result c.requires.sound c.word-length.ensures c.if-index-length.false c.requires.in_range

pub returns-else-index-length-clause-row : goal.returns-else-index-length-clause-row
returns-else-index-length-clause-row g c = bound_at (g.HC.Words.bytes c.args.self.now.head) (g.BC.Words.bytes c.args.self.now.bounds) c.args.index c.word-length.result c.word.result c.word-length.ensures c.if-index-length.false c.requires.in_range c.word.ensures (omega arith)
