use Rattle.std.proofs.Common.{◌≡◌, ◌+◌, ◌-◌, ◌*◌, ◌/◌, ◌≤◌, length, take}
use Rattle.std.specs.Prelude.{vec_len, vec_capacity}
use Rattle.columnar_core.specs.Appended.{Appended}
use Rattle.columnar_core.proofs.vector.with_all.Given as goal

abbrev pub invariant-loop-i : goal.invariant-loop-i
invariant-loop-i g l =
    record {
      read : Appended g.T.Element.le_bytes l.initial.column.items l.column.items (take (g.T.Element.size * l.i) l.bytes);
      grown : vec_len l.column ≡ vec_len l.initial.column + l.i;
      capacity : vec_capacity l.column ≡ vec_capacity l.initial.column;
      room : vec_len l.column + (length l.bytes / g.T.Element.size - l.i) ≤ vec_capacity l.column;
    }
