use Rattle.std.proofs.Common.{◌∙◌}
use Rattle.columnar_core.specs.Format.{slice}
use Rattle.columnar_core.specs.WordViews.{le_bytes}
use Rattle.columnar_sums.specs.PackedLaws.{made_of_runs}
use Rattle.columnar_sums.proofs.earlier.UnariesVecU64VecU64ArrayU642Earlier.from_old.Goals as goal

pub returns-clause-ok : goal.returns-clause-ok
returns-clause-ok c = made_of_runs {c = slice (le_bytes c.args.old.items)} c.in_ok-bits.ensures.sound (c.in_ok-bits.ensures.bits ∙ c.in_ok-values.ensures.bits) c.in_ok-values.ensures.rise
