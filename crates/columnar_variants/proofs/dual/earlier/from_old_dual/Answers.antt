use Rattle.columnar_base.specs.ChangeLaws.{passed_on}
use Rattle.columnar_variants.specs.DualLaws.{firsts_sound, seconds_sound}
use Rattle.columnar_variants.specs.DualEarlierLaws.{dual_made, dual_not_firsts, dual_not_seconds}
use Rattle.columnar_variants.proofs.dual.earlier.from_old_dual.Goals as goal

pub from_old-requires : goal.from_old-requires
from_old-requires g c = firsts_sound g.SC.Old.Column.format g.TC.Old.Column.format c.requires

pub from_old-requires-2 : goal.from_old-requires-2
from_old-requires-2 g c = seconds_sound g.SC.Old.Column.format g.TC.Old.Column.format c.requires

pub returns-in_err-first-clause-err : goal.returns-in_err-first-clause-err
returns-in_err-first-clause-err g c = rw (passed_on c.from_residual.result c.from_residual.ensures.1) (dual_not_firsts g.SC.Old.Column.format g.SC.Column.format g.TC.Old.Column.format g.TC.Column.format c.in_err-first.field-0.0 c.requires c.in_err-first.ensures.err)

pub returns-in_err-second-clause-err : goal.returns-in_err-second-clause-err
returns-in_err-second-clause-err g c = rw (passed_on c.from_residual-in_err-second.result c.from_residual-in_err-second.ensures.1) (dual_not_seconds g.SC.Old.Column.format g.SC.Column.format g.TC.Old.Column.format g.TC.Column.format c.in_err-second.field-0.0 c.requires c.in_err-second.ensures.err)

pub returns-clause-ok : goal.returns-clause-ok
returns-clause-ok g c = dual_made g.SC.Old.Column.format g.SC.Column.format g.TC.Old.Column.format g.TC.Column.format c.requires c.in_ok-first.ensures.ok c.in_ok-second.ensures.ok
