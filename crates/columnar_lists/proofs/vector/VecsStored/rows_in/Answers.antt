use Rattle.std.proofs.Common.{◌∙◌, sym, drop}
use Rattle.columnar_base.specs.TwoPartsLaws.{representable_left, two_fits_left}
use Rattle.columnar_core.specs.Store.{slices_in}
use Rattle.columnar_lists.specs.ListLaws.{lists_two, length-lists}
use Rattle.columnar_lists.proofs.vector.VecsStored.rows_in.Goals as goal

pub rows_in-requires-clause-representable : goal.rows_in-requires-clause-representable
rows_in-requires-clause-representable g c = representable_left (lists_two g.BC.Column.format g.TC.Column.format) c.requires.representable

pub rows_in-requires-clause-fits : goal.rows_in-requires-clause-fits
rows_in-requires-clause-fits g c = two_fits_left (lists_two g.BC.Column.format g.TC.Column.format) c.args.offset (slices_in c.args.store.now) c.requires.fits

pub returns : goal.returns
returns g c = c.rows_in.ensures ∙ sym (length-lists g.BC.Column.format g.TC.Column.format (g.BC.Column.format.build (drop c.args.offset (slices_in c.args.store.now))) (g.TC.Column.format.build (drop g.BC.Column.format.count (drop c.args.offset (slices_in c.args.store.now)))))
