use Rattle.event_log.proofs.Storing.{columns_exact, kept_row, row_added}
use Rattle.event_log.proofs.batch.EventsBatch.add.Goals as goal

pub returns : goal.returns
returns c = kept_row c.kept.result c.push.result c.kept.ensures c.push.ensures.ok (λ t. row_added columns_exact t)
