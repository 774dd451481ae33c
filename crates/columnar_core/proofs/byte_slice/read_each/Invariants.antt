use Rattle.std.proofs.Common.{◌≡◌, length, map, take}
use Rattle.std.specs.List.{flat_map, range_with_len}
use Rattle.columnar_core.specs.Bytes.{word}
use Rattle.columnar_core.proofs.byte_slice.read_each.Given as goal

abbrev pub invariant-loop-i : goal.invariant-loop-i
invariant-loop-i g l = record {
  long : length l.block ≡ length l.fn.block;
  put : take l.i l.block ≡ map (word (flat_map g.T.Element.le_bytes l.items)) (range_with_len l.from l.i);
}
