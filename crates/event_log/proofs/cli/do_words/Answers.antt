use Rattle.event_log.specs.Uses.{use_of, Received}
use Rattle.event_log.proofs.Ending.{ends_done, ends_failed}
use Rattle.event_log.proofs.cli.do_words.Goals as goal

pub returns-in-Ok : goal.returns-in-Ok
returns-in-Ok g c = ends_done _ (Received {F = g.row.R-File.Denot} g.R.File.Write.contents) (use_of c.args.words.now) c.in-Some.answer c.in-Ok.status _ _ c.in-Some.ensures c.in-Ok.ensures

pub returns-in-Err : goal.returns-in-Err
returns-in-Err g c = ends_failed _ (Received {F = g.row.R-File.Denot} g.R.File.Write.contents) (use_of c.args.words.now) c.in-Some.answer c.in-Err.failure _ _ c.in-Some.ensures c.in-Err.ensures
