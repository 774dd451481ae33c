use Rattle.std.proofs.Common.{◌≡◌, ◌+◌, length}
use Rattle.columnar_core.specs.WordViews.{view_words}
use Rattle.columnar_sums.specs.FormLaws.{AreCounted, ArePlaced}
use Rattle.columnar_sums.proofs.discriminant.bytes.are_numbered.Given as goal

abbrev pub invariant-loop-at : goal.invariant-loop-at
invariant-loop-at g l =
    record {
      size : length l.counts ≡ 256;
      counted : AreCounted l.variants l.counts l.at;
      placed : ArePlaced l.variants (view_words l.offsets) l.at;
      turns : l.tally.turns ≡ l.fn.tally.turns + l.at;
    }
