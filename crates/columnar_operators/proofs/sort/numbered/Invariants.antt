use Rattle.std.proofs.Common.{◌≡◌, ℕ, length, map}
use Rattle.std.specs.Prelude.{All, slice_get, Some}
use Rattle.std.specs.List.{range_with_len}
use Rattle.columnar_operators.proofs.sort.numbered.Given as goal

abbrev pub invariant-loop-i : goal.invariant-loop-i
invariant-loop-i g l =
    let rows = g.S.Column.format.rows (g.S.Column.content l.column) in
    record {
      numbers : map (λ p. p.1) l.rows.items ≡ range_with_len 0 l.i;
      named : All (λ p. slice_get rows p.1 ≡ Some (g.S.Ref.Item.meaning p.0)) l.rows.items;
    }
