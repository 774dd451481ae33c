use Rattle.roster.specs.Uses.{use_of}
use Rattle.roster.proofs.Ending.{ends_done, ends_failed}
use Rattle.roster.proofs.cli.do_words.Goals as goal

pub returns-in-Ok : goal.returns-in-Ok
returns-in-Ok g c = ends_done _ _ _ (use_of c.args.words.now) c.in-Some.answer c.in-Ok.status _ _ c.in-Some.ensures c.in-Ok.ensures

pub returns-in-Err : goal.returns-in-Err
returns-in-Err g c = ends_failed _ _ _ (use_of c.args.words.now) c.in-Some.answer c.in-Err.failure _ _ c.in-Some.ensures c.in-Err.ensures
