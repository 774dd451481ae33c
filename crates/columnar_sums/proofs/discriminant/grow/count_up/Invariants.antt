use Rattle.std.proofs.Common.{◌≡◌, ◌++◌}
use Rattle.std.specs.List.{range_with_len}
use Rattle.columnar_sums.proofs.discriminant.grow.count_up.Given as goal

abbrev pub invariant-loop-number : goal.invariant-loop-number
invariant-loop-number l = l.offsets.items ≡ l.fn.offsets.items ++ range_with_len 0 l.number
