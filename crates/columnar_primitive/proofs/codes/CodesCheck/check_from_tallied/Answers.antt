use Rattle.std.proofs.Common.{length}
use Rattle.columnar_base.specs.Format.{bytes_held, IsSound}
use Rattle.columnar_base.specs.FaultLaws.{sound_from}
use Rattle.columnar_primitive.specs.MappedLaws.{mapped_fine, pass_always, turns_fit}
use Rattle.columnar_primitive.proofs.codes.CodesCheck.check_from_tallied.Goals as goal

pub returns-then-always_fits-clause-exact : goal.returns-then-always_fits-clause-exact
returns-then-always_fits-clause-exact g c = mapped_fine g.CV.Column.format g.T.Coded.row_of g.T.Rule.is_code (g.CV.Column.content c.args.self.now.values) c.args.from c.in_ok-check_from_tallied.ensures.exact (pass_always g.T.Rule.is_code (c.always_fits.ensures c.if-always_fits.true) (g.CV.Column.format.rows (g.CV.Column.content c.args.self.now.values)))

pub all_fit-requires : goal.all_fit-requires
all_fit-requires g c = sound_from g.CV.Column.format (g.CV.Column.content c.args.self.now.values) c.args.from c.in_ok-check_from_tallied.ensures.exact

pub returns-then-all_fit-clause-turns : goal.returns-then-all_fit-clause-turns
returns-then-all_fit-clause-turns g c =
    let x = g.CV.Column.content c.args.self.now.values in
    let s : IsSound g.CV.Column.format x = sound_from g.CV.Column.format x c.args.from c.in_ok-check_from_tallied.ensures.exact in
    turns_fit c.args.tally.now.turns c.check_from_tallied.new.tally.turns c.all_fit.new.tally.turns g.CV.Column.format.turns (bytes_held x) (length (g.CV.Column.format.rows x)) g.met.CV.Flat.still c.check_from_tallied.ensures.turns c.all_fit.ensures.turns (g.met.CV.Flat.flat.short x s)

pub returns-else-all_fit-clause-turns : goal.returns-else-all_fit-clause-turns
returns-else-all_fit-clause-turns g c =
    let x = g.CV.Column.content c.args.self.now.values in
    let s : IsSound g.CV.Column.format x = sound_from g.CV.Column.format x c.args.from c.in_ok-check_from_tallied.ensures.exact in
    turns_fit c.args.tally.now.turns c.check_from_tallied.new.tally.turns c.all_fit.new.tally.turns g.CV.Column.format.turns (bytes_held x) (length (g.CV.Column.format.rows x)) g.met.CV.Flat.still c.check_from_tallied.ensures.turns c.all_fit.ensures.turns (g.met.CV.Flat.flat.short x s)
