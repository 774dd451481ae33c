use Rattle.std.proofs.Common.{length, ◌-◌, ◌≤◌, drop}
use Rattle.columnar_core.specs.Bytes.{le_bytes}
use Rattle.columnar_core.specs.Sent.{WentOut}
use Rattle.columnar_core.proofs.byte_slice.write_blocks.Given as goal

abbrev pub invariant-loop-at : goal.invariant-loop-at
invariant-loop-at g l = record {
  within : l.at ≤ length l.words;
  sent : WentOut (g.W.WriteBytes.contents l.fn.writer) (g.W.WriteBytes.contents l.writer) (le_bytes (drop l.at l.words)) (le_bytes l.words);
}

abbrev pub decreases-loop-at : goal.decreases-loop-at
decreases-loop-at g l = length l.words - l.at
