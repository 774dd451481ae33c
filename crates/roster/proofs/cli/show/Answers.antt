use Rattle.std.proofs.Common.{refl}
use Rattle.roster.proofs.Showing.{shows_of}
use Rattle.roster.proofs.cli.show.Goals as goal

pub returns : goal.returns
returns c = (refl, shows_of _ c.in_ok-roster_bytes.field-0.items _ _ _ c.in_ok-roster_bytes.ensures c.stash_of-opened.ensures.content c.borrow.ensures.content c.in_ok-text.ensures)
