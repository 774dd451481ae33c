use Rattle.std.proofs.Common.{length}
use Rattle.columnar_json.proofs.chosen.+write_others.Given as goal

abbrev pub decreases-write_others : goal.decreases-write_others
decreases-write_others l = length l.names.now
