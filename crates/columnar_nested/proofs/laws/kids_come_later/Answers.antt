use Rattle.columnar_nested.specs.RefLaws.{kid_between}
use Rattle.columnar_nested.proofs.laws.kids_come_later.Goals as goal

pub returns : goal.returns
returns c = λ groups bounds n i k r l h. kid_between r i k l h
