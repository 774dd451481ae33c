use Rattle.std.proofs.Common.{◌≡◌, ℕ, ◌+◌, ◌&&◌, drop}
use Rattle.columnar_core.specs.Bounds.{rises, numbers}
use Rattle.columnar_core.proofs.words.risen.Given as goal

abbrev pub invariant-loop-i : goal.invariant-loop-i
invariant-loop-i g l =
    record {
      value : (end : ℕ) → rises l.fn.first (drop l.fn.from (numbers (g.C.Column.format.rows (g.C.Column.content l.fn.column)))) end ≡ (l.rising && rises l.last (drop (l.fn.from + l.i) (numbers (g.C.Column.format.rows (g.C.Column.content l.fn.column)))) end);
      turns : l.tally.turns ≡ l.fn.tally.turns + l.i;
    }
