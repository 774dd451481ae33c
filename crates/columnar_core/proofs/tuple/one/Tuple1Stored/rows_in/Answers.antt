use Rattle.std.proofs.Common.{sym, ◌∙◌, drop}
use Rattle.columnar_base.specs.SoloLaws.{solo_fits, solo_length}
use Rattle.columnar_core.specs.Store.{slices_in}
use Rattle.columnar_core.proofs.tuple.one.Tuple1Stored.rows_in.Goals as goal

pub rows_in-requires-clause-fits : goal.rows_in-requires-clause-fits
rows_in-requires-clause-fits g c = solo_fits g.A.Column.format c.args.offset (slices_in c.args.store.now) c.requires.fits

pub returns : goal.returns
returns g c = c.rows_in.ensures ∙ sym (solo_length g.A.Column.format (g.A.Column.format.build (drop c.args.offset (slices_in c.args.store.now))))
