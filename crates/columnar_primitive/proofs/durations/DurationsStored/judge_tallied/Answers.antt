use Rattle.columnar_base.specs.ChangeLaws.{passed_on}
use Rattle.std.proofs.Common.{◌≡◌, ◌+◌, length, drop, sym, ◌∙◌}
use Rattle.columnar_base.specs.TwoPartsLaws.{representable_left, representable_right, judged_part_at}
use Rattle.columnar_base.specs.TupleLaws.{pair_two}
use Rattle.columnar_base.specs.Tuples.{pair_format}
use Rattle.columnar_base.specs.Faults.{fault_of}
use Rattle.columnar_core.specs.Store.{slices_in}
use Rattle.columnar_primitive.specs.Durations.{as_duration, is_duration}
use Rattle.columnar_primitive.specs.DurationLaws.{durations_fine_at, durations_own_at, durations_turns_at}
use Rattle.columnar_primitive.specs.MappedLaws.{mapped_broken}
use Rattle.columnar_primitive.proofs.durations.DurationsStored.judge_tallied.Goals as goal

pub judge_two-requires-clause-left : goal.judge_two-requires-clause-left
judge_two-requires-clause-left g c = representable_left (pair_two g.SC.Column.format g.NC.Column.format) c.requires.representable

pub judge_two-requires-clause-right : goal.judge_two-requires-clause-right
judge_two-requires-clause-right g c = representable_right (pair_two g.SC.Column.format g.NC.Column.format) c.requires.representable

pub returns-in_err-judge_two-clause-exact : goal.returns-in_err-judge_two-clause-exact
returns-in_err-judge_two-clause-exact g c = rw (passed_on c.from_residual.result c.from_residual.ensures.1) (mapped_broken (pair_format g.SC.Column.format g.NC.Column.format) as_duration is_duration ((pair_format g.SC.Column.format g.NC.Column.format).build (drop c.args.offset (slices_in c.args.store.now))) c.args.offset (fault_of c.in_err-judge_two.field-0.0) (judged_part_at (pair_two g.SC.Column.format g.NC.Column.format) (slices_in c.args.store.now) c.args.offset (fault_of c.in_err-judge_two.field-0.0) c.in_err-judge_two.ensures.exact))

pub slice_count-requires : goal.slice_count-requires
slice_count-requires g c = representable_left (pair_two g.SC.Column.format g.NC.Column.format) c.requires.representable

pub rows_in-rows-requires-clause-representable : goal.rows_in-rows-requires-clause-representable
rows_in-rows-requires-clause-representable g c = representable_left (pair_two g.SC.Column.format g.NC.Column.format) c.requires.representable

pub rows_in-requires-clause-representable : goal.rows_in-requires-clause-representable
rows_in-requires-clause-representable g c = representable_right (pair_two g.SC.Column.format g.NC.Column.format) c.requires.representable

pub all_fit_in-requires-clause-representable : goal.all_fit_in-requires-clause-representable
all_fit_in-requires-clause-representable g c = representable_right (pair_two g.SC.Column.format g.NC.Column.format) c.requires.representable

pub returns-then-all_fit_in-clause-exact : goal.returns-then-all_fit_in-clause-exact
returns-then-all_fit_in-clause-exact g c =
    let l : length (g.SC.Column.format.rows (g.SC.Column.format.build (drop c.args.offset (slices_in c.args.store.now)))) ≡ length (g.NC.Column.format.rows (g.NC.Column.format.build (drop (c.args.offset + g.SC.Column.format.count) (slices_in c.args.store.now)))) = sym c.rows_in-rows.ensures ∙ (c.if-rows-rows_in.false ∙ (rw c.slice_count.ensures at c.rows_in.ensures)) in
    durations_fine_at g.SC.Column.format g.NC.Column.format (slices_in c.args.store.now) c.args.offset c.in_ok-judge_two.ensures.exact l (sym (rw c.slice_count.ensures at c.all_fit_in.ensures.value) ∙ c.if-all_fit_in.true)

pub returns-else-all_fit_in-clause-exact : goal.returns-else-all_fit_in-clause-exact
returns-else-all_fit_in-clause-exact g c =
    let l : length (g.SC.Column.format.rows (g.SC.Column.format.build (drop c.args.offset (slices_in c.args.store.now)))) ≡ length (g.NC.Column.format.rows (g.NC.Column.format.build (drop (c.args.offset + g.SC.Column.format.count) (slices_in c.args.store.now)))) = sym c.rows_in-rows.ensures ∙ (c.if-rows-rows_in.false ∙ (rw c.slice_count.ensures at c.rows_in.ensures)) in
    durations_own_at g.SC.Column.format g.NC.Column.format (slices_in c.args.store.now) c.args.offset c.in_ok-judge_two.ensures.exact l (sym (rw c.slice_count.ensures at c.all_fit_in.ensures.value) ∙ c.if-all_fit_in.false)

pub returns-then-all_fit_in-clause-turns : goal.returns-then-all_fit_in-clause-turns
returns-then-all_fit_in-clause-turns g c =
    durations_turns_at g.SC.Column.format g.NC.Column.format (slices_in c.args.store.now) c.args.offset c.args.tally.now.turns c.judge_two.new.tally.turns c.all_fit_in.new.tally.turns g.met.SC.Flat.still g.met.NC.Flat.still c.judge_two.ensures.turns (rw c.slice_count.ensures at c.all_fit_in.ensures.turns) (g.met.NC.Flat.flat.short (g.NC.Column.format.build (drop (c.args.offset + g.SC.Column.format.count) (slices_in c.args.store.now))) c.in_ok-judge_two.ensures.right_fits.sound)

pub returns-else-all_fit_in-clause-turns : goal.returns-else-all_fit_in-clause-turns
returns-else-all_fit_in-clause-turns g c =
    durations_turns_at g.SC.Column.format g.NC.Column.format (slices_in c.args.store.now) c.args.offset c.args.tally.now.turns c.judge_two.new.tally.turns c.all_fit_in.new.tally.turns g.met.SC.Flat.still g.met.NC.Flat.still c.judge_two.ensures.turns (rw c.slice_count.ensures at c.all_fit_in.ensures.turns) (g.met.NC.Flat.flat.short (g.NC.Column.format.build (drop (c.args.offset + g.SC.Column.format.count) (slices_in c.args.store.now))) c.in_ok-judge_two.ensures.right_fits.sound)
