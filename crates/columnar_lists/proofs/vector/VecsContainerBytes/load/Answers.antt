use Rattle.columnar_base.specs.TwoPartsLaws.{representable_left, representable_right, two_fits_left, two_fits_right}
use Rattle.columnar_core.specs.Store.{slices_in}
use Rattle.columnar_lists.specs.ListLaws.{lists_two}
use Rattle.columnar_lists.proofs.vector.VecsContainerBytes.load.Goals as goal

pub load_two-requires : goal.load_two-requires
load_two-requires g c =
    let t = lists_two g.BC.Column.format g.TC.Column.format in
    let r = c.requires.representable in
    let ss = slices_in c.args.store.now in
    record { left = representable_left t r; right = representable_right t r; left_fits = two_fits_left t c.args.offset ss c.requires.fits; right_fits = two_fits_right t c.args.offset ss c.requires.fits }
