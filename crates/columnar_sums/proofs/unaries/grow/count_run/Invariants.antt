use Rattle.std.proofs.Common.{◌-◌, ◌≡◌, ◌≤◌, ◌++◌, length, take}
use Rattle.std.specs.Vec.{vec_capacity}
use Rattle.columnar_core.specs.WordViews.{words_in, le_bytes}
use Rattle.columnar_sums.specs.UnaryColumns.{repeated}
use Rattle.columnar_sums.proofs.unaries.grow.count_run.Given as goal

abbrev pub invariant-loop-at : goal.invariant-loop-at
invariant-loop-at l =
    record {
      words : words_in (le_bytes l.counts.items) ≡ words_in (le_bytes l.fn.counts.items) ++ repeated (l.at - l.before) l.total;
      many : length l.counts.items ≡ l.at;
      front : take l.before l.counts.items ≡ l.fn.counts.items;
      from : l.before ≤ l.at;
      capacity : vec_capacity l.fn.counts ≤ vec_capacity l.counts;
    }
