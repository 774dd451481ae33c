use Rattle.std.proofs.Common.{rules, ◌≡◌}
use Rattle.std.proofs.lemmas.Result.{IfOk-weaker}
use Rattle.event_log.specs.declared.reading.Unread.TheVariants.{Line}
use Rattle.event_log.specs.Uses.{Received}
use Rattle.event_log.proofs.Answering.{append_done, append_refused}
use Rattle.event_log.proofs.Texts.{line_number}
use Rattle.event_log.proofs.cli.append.Goals as goal

pub returns-in-Ok : goal.returns-in-Ok
returns-in-Ok g c = IfOk-weaker c.append_batch.result _ _ (append_done g.B.Batch.format (Received {F = g.row.R-File.Denot} g.R.File.Write.contents) c.as_slice.result.now c.in-Ok.batch.items c.as_slice-in-Ok.result.now c.as_slice-in-Ok.ensures.value c.in-Ok.ensures.ok) c.append_batch.ensures

pub returns : goal.returns
returns g c =
    let l = c.in-Err-Line in
    let same : l.field-0 ≡ Line l.number l.reason = search rules in
    let refused = line_number l.field-0 l.number l.reason _ same l.ensures.refused in
    IfOk-weaker c.line_refusal.result _ _ (append_refused g.B.Batch.format (Received {F = g.row.R-File.Denot} g.R.File.Write.contents) c.as_slice.result.now l.number l.reason refused) c.line_refusal.ensures
