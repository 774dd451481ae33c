use Rattle.std.proofs.Common.{arith}
use Rattle.std.specs.Prelude.{slice_index}
use Rattle.columnar_primitive.specs.StrideLaws.{head_of, head_words, cut_bounds, cut_length, length-held}
use Rattle.columnar_primitive.proofs.offsets.strides.Strides+Vec+u64+array+2+u64.truncate.Goals as goal

pub returns-then-n-length-clause-cut : goal.returns-then-n-length-clause-cut
returns-then-n-length-clause-cut c = rw c.clear.ensures.items (cut_length (slice_index c.args.self.now.head 0) (slice_index c.args.self.now.head 1) c.args.self.now.bounds.items c.args.n (head_of c.args.self.now.head (omega arith) (omega arith) (omega arith)) (head_words (slice_index c.args.self.now.head 0) c.args.n (omega arith) (omega arith)) c.if-n-length.true c.requires.sound)

pub returns-else-n-length-clause-cut : goal.returns-else-n-length-clause-cut
returns-else-n-length-clause-cut c =
    let l = length-held (slice_index c.args.self.now.head 0) (slice_index c.args.self.now.head 1) c.args.self.now.bounds.items (head_of c.args.self.now.head (omega arith) (omega arith) (omega arith)) in
    rw c.truncate.ensures.items (cut_bounds (slice_index c.args.self.now.head 0) (slice_index c.args.self.now.head 1) c.args.self.now.bounds.items c.args.n (head_of c.args.self.now.head (omega arith) (omega arith) (omega arith)) (omega (arith, c.if-n-length.false)) (omega (arith, c.requires.in_range)) c.requires.sound)
