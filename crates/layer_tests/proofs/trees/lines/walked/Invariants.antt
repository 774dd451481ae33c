use Rattle.columnar_nested.specs.NodeRefs.{ref_valid}
use Rattle.layer_tests.proofs.trees.lines.walked.Given as goal

abbrev pub invariant-loop-met : goal.invariant-loop-met
invariant-loop-met g l = ref_valid g.B.NodeBounds.bytes g.V.Column.format g.V.Column.content l.node
