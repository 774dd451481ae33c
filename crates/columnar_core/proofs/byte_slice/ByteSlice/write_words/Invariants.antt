use Rattle.std.proofs.Common.{◌≡◌, ◌*◌, ◌-◌, length, drop}
use Rattle.columnar_core.specs.Slices.{bytes_in}
use Rattle.columnar_core.specs.Sent.{WentOut}
use Rattle.columnar_core.proofs.byte_slice.ByteSlice.write_words.Given as goal

abbrev pub invariant-loop-at : goal.invariant-loop-at
invariant-loop-at g l = record {
  words : length l.block ≡ 128;
  sent : WentOut (g.W.WriteBytes.contents l.fn.writer) (g.W.WriteBytes.contents l.writer) (drop (8 * l.at) (bytes_in l.self)) (bytes_in l.self);
}

abbrev pub decreases-loop-at : goal.decreases-loop-at
decreases-loop-at g l = length (bytes_in l.self) - 8 * l.at
