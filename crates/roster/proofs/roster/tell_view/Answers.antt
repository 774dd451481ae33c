use Rattle.roster.proofs.Lines.{sum_last}
use Rattle.roster.proofs.roster.tell_view.Goals as goal

pub returns : goal.returns
returns g c = sum_last _ _ _ _ _ c.in_ok-text.ensures c.sum_ages.ensures c.in_ok-writeln.ensures.bytes
