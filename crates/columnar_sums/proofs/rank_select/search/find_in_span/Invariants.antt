use Rattle.std.proofs.Common.{◌≡◌, ◌+◌, ◌-◌, ◌*◌, ◌^◌, ◌≤◌}
use Rattle.columnar_sums.specs.Spans.{IsSpan}
use Rattle.columnar_sums.proofs.rank_select.search.find_in_span.Given as goal

abbrev pub invariant-loop-rest : goal.invariant-loop-rest
invariant-loop-rest g l =
    record {
      span : IsSpan l.counts l.rank l.low l.sum l.rest;
      more : l.fn.tally.counts ≤ l.tally.counts;
      shrinks : 2 ^ (l.tally.counts - l.fn.tally.counts) * l.rest ≤ l.fn.span.rest;
      cost : 2 ^ (l.tally.counts - l.fn.tally.counts) ≤ 2 * l.fn.span.rest + 1;
      words : l.tally.words ≡ l.fn.tally.words;
      turns : l.tally.turns + l.fn.tally.counts ≡ l.fn.tally.turns + l.tally.counts;
    }

abbrev pub decreases-loop-rest : goal.decreases-loop-rest
decreases-loop-rest g l = l.rest
