use Rattle.columnar_base.specs.Format.{IsSound}
use Rattle.columnar_sums.specs.UnaryColumns.{unaries_format, owned_unaries}
use Rattle.layer_tests.proofs.unaries.takes_offsets.Given as goal

abbrev pub invariant-loop-offset : goal.invariant-loop-offset
invariant-loop-offset l = IsSound unaries_format (owned_unaries l.bounds)
