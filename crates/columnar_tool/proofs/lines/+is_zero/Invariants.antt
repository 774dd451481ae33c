use Rattle.std.proofs.Common.{length}
use Rattle.columnar_tool.proofs.lines.+is_zero.Given as goal

abbrev pub decreases-is_zero : goal.decreases-is_zero
decreases-is_zero l = length l.bytes.now
