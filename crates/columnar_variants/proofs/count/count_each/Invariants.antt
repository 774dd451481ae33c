use Rattle.std.proofs.Common.{◌≡◌, ◌+◌, length, take, true}
use Rattle.columnar_sums.specs.FormLaws.{AreCounted}
use Rattle.columnar_variants.specs.Variants.{are_below}
use Rattle.columnar_variants.proofs.count.count_each.Given as goal

abbrev pub invariant-loop-at : goal.invariant-loop-at
invariant-loop-at g l =
    record {
      size : length l.counts ≡ 256;
      counted : AreCounted l.variants l.counts l.at;
      below : are_below l.size (take l.at l.variants) ≡ true;
      turns : l.tally.turns ≡ l.fn.tally.turns + l.at;
    }
