use Rattle.std.proofs.Common.{sym, arith}
use Rattle.columnar_primitive.specs.StrideLaws.{strides_parts, length-strides}
use Rattle.columnar_primitive.proofs.offsets.strides.StridesLen.len.Goals as goal

pub overflow_add-result : goal.overflow_add-result
overflow_add-result g c = let p = strides_parts {hs = (g.HC.Words.bytes c.args.self.now.head)} {bs = (g.BC.Words.bytes c.args.self.now.bounds)} c.requires in omega (arith, p.few, c.word.ensures, c.size.ensures)

pub returns : goal.returns
returns g c = rw (c.word.ensures, c.size.ensures) (sym (length-strides (g.HC.Words.bytes c.args.self.now.head) (g.BC.Words.bytes c.args.self.now.bounds)))
