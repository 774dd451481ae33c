use Rattle.columnar_lists.specs.ListLaws.{lists_parts}
use Rattle.columnar_base.specs.Elements.{bytes_format}
use Rattle.columnar_strings.proofs.string.walk.StringIter.new.Goals as goal

pub of-ranges-requires : goal.of-ranges-requires
of-ranges-requires g c = (lists_parts g.W.Column.format bytes_format c.requires).bounds
