use Rattle.std.proofs.Common.{◌+◌, refl}
use Rattle.columnar_core.specs.Store.{slices_in}
use Rattle.columnar_core.specs.TwoPartsLaws.{representable_right, two_fits_left, two_fits_right}
use Rattle.columnar_sums.specs.OptionLaws.{options_two, options_at}
use Rattle.columnar_sums.proofs.option.bytes.OptionsVecU64VecU64ArrayU642ContainerBytes.load.Goals as goal

pub load_two-requires-clause-right : goal.load_two-requires-clause-right
load_two-requires-clause-right g c = representable_right (options_two g.TC.Column.format) c.requires.representable

pub load_two-requires-clause-left_fits : goal.load_two-requires-clause-left_fits
load_two-requires-clause-left_fits g c = two_fits_left (options_two g.TC.Column.format) c.args.offset (slices_in c.args.store.now) c.requires.fits

pub load_two-requires-clause-right_fits : goal.load_two-requires-clause-right_fits
load_two-requires-clause-right_fits g c = two_fits_right (options_two g.TC.Column.format) c.args.offset (slices_in c.args.store.now) c.requires.fits

pub returns-clause-content : goal.returns-clause-content
returns-clause-content g c = options_at g.TC.Column.format c.args.offset (c.args.offset + 3) (slices_in c.args.store.now) c.in_ok-indexes.ensures.left c.in_ok-indexes.ensures.right refl
