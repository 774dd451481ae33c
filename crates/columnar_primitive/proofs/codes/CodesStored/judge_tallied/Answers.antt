use Rattle.std.proofs.Common.{length, drop}
use Rattle.columnar_base.specs.Format.{bytes_held, Fits}
use Rattle.columnar_base.specs.FaultLaws.{fits_from}
use Rattle.columnar_core.specs.Store.{slices_in}
use Rattle.columnar_primitive.specs.MappedLaws.{mapped_fine, pass_always, turns_fit}
use Rattle.columnar_primitive.proofs.codes.CodesStored.judge_tallied.Goals as goal

pub returns-then-always_fits-clause-exact : goal.returns-then-always_fits-clause-exact
returns-then-always_fits-clause-exact g c =
    let x = g.CV.Column.format.build (drop c.args.offset (slices_in c.args.store.now)) in
    mapped_fine g.CV.Column.format g.T.Coded.row_of g.T.Rule.is_code x c.args.offset c.in_ok-judge_tallied.ensures.exact (pass_always g.T.Rule.is_code (c.always_fits.ensures c.if-always_fits.true) (g.CV.Column.format.rows x))

pub all_fit_in-requires-clause-fits : goal.all_fit_in-requires-clause-fits
all_fit_in-requires-clause-fits g c = fits_from g.CV.Column.format c.args.offset (slices_in c.args.store.now) c.requires.room c.in_ok-judge_tallied.ensures.exact

pub returns-then-all_fit_in-clause-turns : goal.returns-then-all_fit_in-clause-turns
returns-then-all_fit_in-clause-turns g c =
    let x = g.CV.Column.format.build (drop c.args.offset (slices_in c.args.store.now)) in
    let s : Fits g.CV.Column.format c.args.offset (slices_in c.args.store.now) = fits_from g.CV.Column.format c.args.offset (slices_in c.args.store.now) c.requires.room c.in_ok-judge_tallied.ensures.exact in
    turns_fit c.args.tally.now.turns c.judge_tallied.new.tally.turns c.all_fit_in.new.tally.turns g.CV.Column.format.turns (bytes_held x) (length (g.CV.Column.format.rows x)) g.met.CV.Flat.still c.judge_tallied.ensures.turns c.all_fit_in.ensures.turns (g.met.CV.Flat.flat.short x s.sound)

pub returns-else-all_fit_in-clause-turns : goal.returns-else-all_fit_in-clause-turns
returns-else-all_fit_in-clause-turns g c =
    let x = g.CV.Column.format.build (drop c.args.offset (slices_in c.args.store.now)) in
    let s : Fits g.CV.Column.format c.args.offset (slices_in c.args.store.now) = fits_from g.CV.Column.format c.args.offset (slices_in c.args.store.now) c.requires.room c.in_ok-judge_tallied.ensures.exact in
    turns_fit c.args.tally.now.turns c.judge_tallied.new.tally.turns c.all_fit_in.new.tally.turns g.CV.Column.format.turns (bytes_held x) (length (g.CV.Column.format.rows x)) g.met.CV.Flat.still c.judge_tallied.ensures.turns c.all_fit_in.ensures.turns (g.met.CV.Flat.flat.short x s.sound)
