use Rattle.std.proofs.Common.{length}
use Rattle.columnar_tool.specs.StoreLaws.{Testing, Told}
use Rattle.columnar_tool.proofs.stores.test_stores.Given as goal

abbrev pub invariant-loop-rest : goal.invariant-loop-rest
invariant-loop-rest g l = record {
  tested : Testing l.kind.schema l.bytes l.rest l.number l.accepted;
  told : Told l.kind.schema l.wanted l.path l.bytes l.rest l.number l.accepted (g.O.WriteBytes.contents l.fn.out) (g.O.WriteBytes.contents l.out);
}

abbrev pub decreases-loop-rest : goal.decreases-loop-rest
decreases-loop-rest g l = length l.rest
