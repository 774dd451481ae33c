use Rattle.std.proofs.Common.{length}
use Rattle.event_log.specs.Lines.{AreRead}
use Rattle.event_log.proofs.reading.batch_of.Given as goal
use denote.Shadow.{shadow}
use denote.Text.{Utf8}

abbrev pub invariant-loop-rest : goal.invariant-loop-rest
invariant-loop-rest g l = shadow (Utf8 l.rest) × AreRead l.text l.rest (g.B.Batch.rows l.batch) l.number

abbrev pub decreases-loop-rest : goal.decreases-loop-rest
decreases-loop-rest g l = length l.rest
