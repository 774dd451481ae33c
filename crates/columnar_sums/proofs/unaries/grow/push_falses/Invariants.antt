use Rattle.std.proofs.Common.{◌-◌, ◌≡◌, ◌≤◌, ◌++◌}
use Rattle.std.specs.Vec.{vec_capacity}
use Rattle.columnar_core.specs.Format.{IsSound}
use Rattle.columnar_bits.specs.BoolColumns.{bools_format, owned_content, owned_bits}
use Rattle.columnar_sums.specs.Unary.{all_false}
use Rattle.columnar_sums.proofs.unaries.grow.push_falses.Given as goal

abbrev pub invariant-loop-done : goal.invariant-loop-done
invariant-loop-done l =
    record {
      bits : owned_bits l.values ≡ owned_bits l.fn.values ++ all_false l.done;
      sound : IsSound bools_format (owned_content l.values);
      within : l.done ≤ l.count;
      capacity : vec_capacity l.fn.values.values ≤ vec_capacity l.values.values;
    }

abbrev pub decreases-loop-done : goal.decreases-loop-done
decreases-loop-done l = l.count - l.done
