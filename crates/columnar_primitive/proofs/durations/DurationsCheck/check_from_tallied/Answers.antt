use Rattle.columnar_base.specs.ChangeLaws.{passed_on}
use Rattle.std.proofs.Common.{◌≡◌, length, sym, ◌∙◌}
use Rattle.columnar_base.specs.TwoPartsLaws.{representable_left, representable_right, judged_part}
use Rattle.columnar_base.specs.TupleLaws.{pair_two}
use Rattle.columnar_base.specs.Tuples.{pair_format}
use Rattle.columnar_base.specs.Format.{both, bytes_held}
use Rattle.columnar_base.specs.Faults.{fault_of}
use Rattle.columnar_primitive.specs.Durations.{as_duration, is_duration}
use Rattle.columnar_primitive.specs.DurationLaws.{durations_fine, durations_own, durations_turns}
use Rattle.columnar_primitive.specs.MappedLaws.{mapped_broken}
use Rattle.columnar_primitive.proofs.durations.DurationsCheck.check_from_tallied.Goals as goal

pub check_two-requires-clause-left : goal.check_two-requires-clause-left
check_two-requires-clause-left g c = representable_left (pair_two g.SC.Column.format g.NC.Column.format) c.requires.representable

pub check_two-requires-clause-right : goal.check_two-requires-clause-right
check_two-requires-clause-right g c = representable_right (pair_two g.SC.Column.format g.NC.Column.format) c.requires.representable

pub returns-in_err-check_two-clause-exact : goal.returns-in_err-check_two-clause-exact
returns-in_err-check_two-clause-exact g c = rw (passed_on c.from_residual.result c.from_residual.ensures.1) (mapped_broken (pair_format g.SC.Column.format g.NC.Column.format) as_duration is_duration (both (g.SC.Column.content c.args.self.now.seconds) (g.NC.Column.content c.args.self.now.nanoseconds)) c.args.from (fault_of c.in_err-check_two.field-0.0) (judged_part (pair_two g.SC.Column.format g.NC.Column.format) (g.SC.Column.content c.args.self.now.seconds) (g.NC.Column.content c.args.self.now.nanoseconds) c.args.from (fault_of c.in_err-check_two.field-0.0) c.in_err-check_two.ensures.exact))

pub returns-then-all_fit-clause-exact : goal.returns-then-all_fit-clause-exact
returns-then-all_fit-clause-exact g c =
    let l : length (g.SC.Column.format.rows (g.SC.Column.content c.args.self.now.seconds)) ≡ length (g.NC.Column.format.rows (g.NC.Column.content c.args.self.now.nanoseconds)) = sym c.len-rows.ensures ∙ (c.if-rows-len.false ∙ c.len.ensures) in
    durations_fine g.SC.Column.format g.NC.Column.format (g.SC.Column.content c.args.self.now.seconds) (g.NC.Column.content c.args.self.now.nanoseconds) c.args.from c.in_ok-check_two.ensures.exact l (sym c.all_fit.ensures.value ∙ c.if-all_fit.true)

pub returns-else-all_fit-clause-exact : goal.returns-else-all_fit-clause-exact
returns-else-all_fit-clause-exact g c =
    let l : length (g.SC.Column.format.rows (g.SC.Column.content c.args.self.now.seconds)) ≡ length (g.NC.Column.format.rows (g.NC.Column.content c.args.self.now.nanoseconds)) = sym c.len-rows.ensures ∙ (c.if-rows-len.false ∙ c.len.ensures) in
    durations_own g.SC.Column.format g.NC.Column.format (g.SC.Column.content c.args.self.now.seconds) (g.NC.Column.content c.args.self.now.nanoseconds) c.args.from c.in_ok-check_two.ensures.exact l (sym c.all_fit.ensures.value ∙ c.if-all_fit.false)

pub returns-then-all_fit-clause-turns : goal.returns-then-all_fit-clause-turns
returns-then-all_fit-clause-turns g c =
    durations_turns c.args.tally.now.turns c.check_two.new.tally.turns c.all_fit.new.tally.turns g.SC.Column.format.turns g.NC.Column.format.turns (bytes_held (g.SC.Column.content c.args.self.now.seconds)) (bytes_held (g.NC.Column.content c.args.self.now.nanoseconds)) (length (g.NC.Column.format.rows (g.NC.Column.content c.args.self.now.nanoseconds))) g.met.SC.Flat.still g.met.NC.Flat.still c.check_two.ensures.turns c.all_fit.ensures.turns (g.met.NC.Flat.flat.short (g.NC.Column.content c.args.self.now.nanoseconds) c.in_ok-check_two.ensures.right_sound)

pub returns-else-all_fit-clause-turns : goal.returns-else-all_fit-clause-turns
returns-else-all_fit-clause-turns g c =
    durations_turns c.args.tally.now.turns c.check_two.new.tally.turns c.all_fit.new.tally.turns g.SC.Column.format.turns g.NC.Column.format.turns (bytes_held (g.SC.Column.content c.args.self.now.seconds)) (bytes_held (g.NC.Column.content c.args.self.now.nanoseconds)) (length (g.NC.Column.format.rows (g.NC.Column.content c.args.self.now.nanoseconds))) g.met.SC.Flat.still g.met.NC.Flat.still c.check_two.ensures.turns c.all_fit.ensures.turns (g.met.NC.Flat.flat.short (g.NC.Column.content c.args.self.now.nanoseconds) c.in_ok-check_two.ensures.right_sound)
