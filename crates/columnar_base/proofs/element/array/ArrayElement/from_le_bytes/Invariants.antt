use Rattle.std.proofs.Common.{ℕ, List, ◌≡◌, ◌*◌, ◌<◌, ◌^◌, length, take}
use Rattle.std.specs.List.{flat_map}
use Rattle.columnar_base.proofs.element.array.ArrayElement.from_le_bytes.Given as goal

-- n items, of which the first i are read from the bytes
pub record AreRead {T : Type 0} (n size : ℕ) (bytes : T → List ℕ) (items : List T) (i : ℕ) (bs : List ℕ) : Type 0 where
  pub long : length items ≡ n
  pub counted : length bs < 2 ^ 64
  pub read : flat_map bytes (take i items) ≡ take (size * i) bs

abbrev pub invariant-loop-i : goal.invariant-loop-i
invariant-loop-i g l = AreRead g.row.N g.T.Element.size g.T.Element.le_bytes l.items l.i l.bytes
