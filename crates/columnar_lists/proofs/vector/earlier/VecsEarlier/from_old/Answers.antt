use Rattle.columnar_base.specs.ChangeLaws.{passed_on}
use Rattle.columnar_lists.specs.ListLaws.{lists_parts}
use Rattle.columnar_lists.specs.EarlierListLaws.{lists_made, lists_not_bounds, lists_not_values}
use Rattle.columnar_lists.proofs.vector.earlier.VecsEarlier.from_old.Goals as goal

pub from_old-requires : goal.from_old-requires
from_old-requires g c = (lists_parts g.BC.Old.Column.format g.TC.Old.Column.format c.requires).bounds

pub returns-in_err-bounds-clause-err : goal.returns-in_err-bounds-clause-err
returns-in_err-bounds-clause-err g c = rw (passed_on c.from_residual.result c.from_residual.ensures.1) (lists_not_bounds g.BC.Old.Column.format g.BC.Column.format g.TC.Old.Column.format g.TC.Column.format c.in_err-bounds.field-0.0 g.met.BC.Old.StoredOffsets.stored_bounds.are_numbers c.requires c.in_err-bounds.ensures.err)

pub from_old-requires-2 : goal.from_old-requires-2
from_old-requires-2 g c = (lists_parts g.BC.Old.Column.format g.TC.Old.Column.format c.requires).values

pub returns-in_err-values-clause-err : goal.returns-in_err-values-clause-err
returns-in_err-values-clause-err g c = rw (passed_on c.from_residual-in_err-values.result c.from_residual-in_err-values.ensures.1) (lists_not_values g.BC.Old.Column.format g.BC.Column.format g.TC.Old.Column.format g.TC.Column.format c.in_err-values.field-0.0 c.requires c.in_err-values.ensures.err)

pub returns-clause-ok : goal.returns-clause-ok
returns-clause-ok g c = lists_made g.BC.Old.Column.format g.BC.Column.format g.TC.Old.Column.format g.TC.Column.format c.requires c.in_ok-bounds.ensures.ok c.in_ok-values.ensures.ok
