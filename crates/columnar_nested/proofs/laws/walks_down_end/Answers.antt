use Rattle.columnar_nested.specs.RefLaws.{walk_ends_soon}
use Rattle.columnar_nested.proofs.laws.walks_down_end.Goals as goal

pub returns : goal.returns
returns c = λ groups bounds n i walk r l w. walk_ends_soon r i walk l w
