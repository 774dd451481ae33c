use Rattle.columnar_lists.specs.ListLaws.{lists_parts}
use Rattle.columnar_lists.proofs.walk.ListIter.new.Goals as goal

pub of-ranges-requires : goal.of-ranges-requires
of-ranges-requires g c = (lists_parts g.W.Column.format g.V.Column.format c.requires).bounds
