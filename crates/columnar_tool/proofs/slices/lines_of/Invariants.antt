use Rattle.std.proofs.Common.{string_bytes, take}
use Rattle.columnar_tool.specs.Slices.{AreSlices}
use Rattle.columnar_tool.proofs.slices.lines_of.Given as goal

abbrev pub invariant-loop-index : goal.invariant-loop-index
invariant-loop-index l = AreSlices 0 (take l.index l.sizes) (string_bytes l.text)
