use Rattle.std.proofs.Common.{◌≡◌, ◌+◌, ◌-◌, ◌*◌, ◌≤◌, drop}
use Rattle.columnar_core.specs.Bounds.{rises, numbers}
use Rattle.columnar_core.proofs.words.rises_by_reading.Given as goal

abbrev pub invariant-loop-at : goal.invariant-loop-at
invariant-loop-at g l =
    record {
      within : l.at ≤ l.count;
      value : rises 0 (numbers (g.C.Column.format.rows (g.C.Column.content l.fn.column))) l.fn.end ≡ rises l.last (drop l.at (numbers (g.C.Column.format.rows (g.C.Column.content l.fn.column)))) l.fn.end;
      turns : l.tally.turns ≤ l.fn.tally.turns + 2 * l.at;
    }

abbrev pub decreases-loop-at : goal.decreases-loop-at
decreases-loop-at g l = l.count - l.at
