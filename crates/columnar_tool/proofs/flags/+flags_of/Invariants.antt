use Rattle.std.proofs.Common.{length}
use Rattle.columnar_tool.proofs.flags.+flags_of.Given as goal

abbrev pub decreases-flags_of : goal.decreases-flags_of
decreases-flags_of l = length l.words.now
