use Rattle.std.proofs.Common.{length}
use Rattle.event_log.specs.Logs.{AreSurveyed}
use Rattle.event_log.proofs.survey.read_all.Given as goal

abbrev pub invariant-loop-store : goal.invariant-loop-store
invariant-loop-store g l = AreSurveyed g.B.Batch.format l.bytes l.rest l.batches l.counts

abbrev pub decreases-loop-store : goal.decreases-loop-store
decreases-loop-store g l = length l.rest
