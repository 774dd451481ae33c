use Rattle.std.proofs.Common.{sym}
use Rattle.columnar_sums.specs.OptionLaws.{options_parts, options_somes}
use Rattle.columnar_sums.proofs.option.Options.into_somes.Goals as goal

pub returns-clause-sound : goal.returns-clause-sound
returns-clause-sound g c = (options_parts g.TC.Column.format c.requires).values

pub returns-clause-rows : goal.returns-clause-rows
returns-clause-rows g c = sym (options_somes g.TC.Column.format c.requires)
