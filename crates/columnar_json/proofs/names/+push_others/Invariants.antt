use Rattle.std.proofs.Common.{length}
use Rattle.columnar_json.proofs.names.+push_others.Given as goal

abbrev pub decreases-push_others : goal.decreases-push_others
decreases-push_others l = length l.names.now
