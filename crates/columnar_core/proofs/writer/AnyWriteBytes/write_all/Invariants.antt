use Rattle.std.proofs.Common.{length}
use Rattle.columnar_core.specs.Sent.{WentOut}
use Rattle.columnar_core.proofs.writer.AnyWriteBytes.write_all.Given as goal

abbrev pub invariant-loop-rest : goal.invariant-loop-rest
invariant-loop-rest g l = WentOut (g.W.Write.contents l.fn.self) (g.W.Write.contents l.self) l.rest l.bytes

abbrev pub decreases-loop-rest : goal.decreases-loop-rest
decreases-loop-rest g l = length l.rest
