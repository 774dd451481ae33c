use Rattle.std.proofs.Common.{length}
use Rattle.columnar_tool.specs.StoreLaws.{Passing}
use Rattle.columnar_tool.proofs.stores.cat_stores.Given as goal

abbrev pub invariant-loop-rest : goal.invariant-loop-rest
invariant-loop-rest g l = Passing l.view l.kind.schema l.bytes l.rest l.number (g.O.WriteBytes.contents l.fn.out) (g.O.WriteBytes.contents l.out)

abbrev pub decreases-loop-rest : goal.decreases-loop-rest
decreases-loop-rest g l = length l.rest
