use Rattle.std.proofs.Common.{◌∙◌}
use Rattle.columnar_variants.proofs.nth.values_at.Goals as goal

pub returns-clause-rows : goal.returns-clause-rows
returns-clause-rows g c = c.nth_column.ensures.rows ∙ c.columns_of.ensures.rows g.B.NthColumn.place g.met.B.NthColumn.known
