use Rattle.std.proofs.Common.{rules, ◌≡◌, Some, None, string_bytes}
use Rattle.event_log.specs.Uses.{Received}
use Rattle.event_log.proofs.Answering.{batch_in, batch_out}
use Rattle.event_log.proofs.cli.append_batch.Goals as goal

pub returns-in-Some : goal.returns-in-Some
returns-in-Some g c =
    let same : c.in_ok-answer.field-0 ≡ Some c.in-Some.answer = search rules in
    batch_out g.B.Batch.format (Received {F = g.row.R-File.Denot} g.R.File.Write.contents) c.as_slice.result.now c.args.batch.now c.in_ok-answer.field-0 c.in-Some.answer same c.in_ok-answer.ensures

pub returns : goal.returns
returns g c =
    let none : c.in_ok-answer.field-0 ≡ None = search rules in
    let received : Received {F = g.row.R-File.Denot} g.R.File.Write.contents c.args.batch.now = search rules in
    batch_in g.B.Batch.format (Received {F = g.row.R-File.Denot} g.R.File.Write.contents) c.as_slice.result.now c.args.batch.now (string_bytes c.new.result) c.in_ok-answer.field-0 none c.in_ok-answer.ensures c.requires.one received c.new.ensures.bytes
