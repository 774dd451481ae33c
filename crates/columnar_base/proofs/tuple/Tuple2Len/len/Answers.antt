use Rattle.std.proofs.Common.{sym, ◌∙◌}
use Rattle.columnar_base.specs.TupleLaws.{pair_parts, length-pair}
use Rattle.columnar_base.proofs.tuple.Tuple2Len.len.Goals as goal

pub len-requires : goal.len-requires
len-requires g c = (pair_parts g.A.Column.format g.B.Column.format c.requires).left

pub returns : goal.returns
returns g c = c.len.ensures ∙ sym (length-pair g.A.Column.format g.B.Column.format c.requires)
