use Rattle.std.proofs.Common.{sym, ◌∙◌}
use Rattle.columnar_primitive.specs.DurationLaws.{durations_parts, length-durations}
use Rattle.columnar_primitive.proofs.durations.DurationsLen.len.Goals as goal

pub len-requires : goal.len-requires
len-requires g c = (durations_parts g.SC.Column.format g.NC.Column.format c.requires).left

pub returns : goal.returns
returns g c = c.len.ensures ∙ sym (length-durations g.SC.Column.format g.NC.Column.format c.requires)
