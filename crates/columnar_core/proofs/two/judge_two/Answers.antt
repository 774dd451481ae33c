use Rattle.std.proofs.Common.{◌+◌, arith}
use Rattle.columnar_base.specs.FaultLaws.{fits_from, fits_on_ok, on_ok}
use Rattle.columnar_core.specs.Store.{slices_in}
use Rattle.columnar_core.proofs.two.judge_two.Goals as goal

pub returns-clause-left_fits : goal.returns-clause-left_fits
returns-clause-left_fits g c = on_ok c.judge_tallied-2.result (fits_from g.A.Column.format c.args.offset (slices_in c.args.store.now) (omega (arith, c.requires.room)) c.in_ok-judge_tallied.ensures.exact)

pub returns-clause-right_fits : goal.returns-clause-right_fits
returns-clause-right_fits g c = fits_on_ok g.B.Column.format (c.args.offset + g.A.Column.format.count) (slices_in c.args.store.now) c.judge_tallied-2.result (omega (arith, c.requires.room)) (rw c.slice_count.ensures at c.judge_tallied-2.ensures.exact)
