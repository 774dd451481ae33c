use Rattle.std.proofs.Common.{◌+◌, drop, sym, ◌∙◌, arith}
use Rattle.std.proofs.lemmas.Bool.{eq-eqb, ne_eqb}
use Rattle.columnar_core.specs.Faults.{fault_of}
use Rattle.columnar_core.specs.Format.{bytes_held}
use Rattle.columnar_core.specs.Store.{slices_in}
use Rattle.columnar_core.specs.TwoPartsLaws.{representable_right, two_turns, judged_part_at, judged_fine_at, judged_own_at}
use Rattle.columnar_sums.specs.OptionLaws.{options_two, options_turns, options_held, ranks_bytes}
use Rattle.columnar_sums.specs.RankColumns.{ranks_format}
use Rattle.columnar_base.specs.ChangeLaws.{passed_on}
use Rattle.columnar_sums.proofs.option.bytes.OptionsStored.judge_tallied.Goals as goal

pub judge_two-requires-clause-right : goal.judge_two-requires-clause-right
judge_two-requires-clause-right g c = representable_right (options_two g.TC.Column.format) c.requires.representable

pub returns-in_err-judge_two-clause-exact : goal.returns-in_err-judge_two-clause-exact
returns-in_err-judge_two-clause-exact g c = rw (passed_on c.from_residual.result c.from_residual.ensures.1) (judged_part_at (options_two g.TC.Column.format) (slices_in c.args.store.now) c.args.offset (fault_of c.in_err-judge_two.field-0.0) c.in_err-judge_two.ensures.exact)

pub returns-in_err-judge_two-clause-turns : goal.returns-in_err-judge_two-clause-turns
returns-in_err-judge_two-clause-turns g c =
    let u = two_turns 16 4 g.TC.Column.format.turns (bytes_held (ranks_format.build (drop c.args.offset (slices_in c.args.store.now)))) (bytes_held (g.TC.Column.format.build (drop (c.args.offset + 3) (slices_in c.args.store.now)))) (omega arith) g.met.TC.Stored.storable.swift in
    rw (options_held g.TC.Column.format c.args.offset (slices_in c.args.store.now)) (omega (arith, u, c.in_err-judge_two.ensures.turns))

pub returns-then-trues_in-values-clause-exact : goal.returns-then-trues_in-values-clause-exact
returns-then-trues_in-values-clause-exact g c = judged_fine_at (options_two g.TC.Column.format) (slices_in c.args.store.now) c.args.offset c.in_ok-judge_two.ensures.exact (eq-eqb _ _ (sym c.trues_in.ensures.value ∙ (c.if-trues_in-values.true ∙ c.rows_in-values.ensures)))

pub returns-then-trues_in-values-clause-turns : goal.returns-then-trues_in-values-clause-turns
returns-then-trues_in-values-clause-turns g c = rw (options_held g.TC.Column.format c.args.offset (slices_in c.args.store.now)) (options_turns _ _ _ g.TC.Column.format.turns (bytes_held (ranks_format.build (drop c.args.offset (slices_in c.args.store.now)))) (bytes_held (g.TC.Column.format.build (drop (c.args.offset + 3) (slices_in c.args.store.now)))) c.in_ok-judge_two.ensures.turns c.trues_in.ensures.turns g.met.TC.Stored.storable.swift (ranks_bytes (ranks_format.build (drop c.args.offset (slices_in c.args.store.now))) c.in_ok-judge_two.ensures.left_fits.sound))

pub returns-else-trues_in-values-clause-exact : goal.returns-else-trues_in-values-clause-exact
returns-else-trues_in-values-clause-exact g c = judged_own_at (options_two g.TC.Column.format) (slices_in c.args.store.now) c.args.offset c.in_ok-judge_two.ensures.exact (ne_eqb _ _ (λ h. c.if-trues_in-values.false (c.trues_in.ensures.value ∙ (h ∙ sym c.rows_in-values.ensures))))

pub returns-else-trues_in-values-clause-turns : goal.returns-else-trues_in-values-clause-turns
returns-else-trues_in-values-clause-turns g c = rw (options_held g.TC.Column.format c.args.offset (slices_in c.args.store.now)) (options_turns _ _ _ g.TC.Column.format.turns (bytes_held (ranks_format.build (drop c.args.offset (slices_in c.args.store.now)))) (bytes_held (g.TC.Column.format.build (drop (c.args.offset + 3) (slices_in c.args.store.now)))) c.in_ok-judge_two.ensures.turns c.trues_in.ensures.turns g.met.TC.Stored.storable.swift (ranks_bytes (ranks_format.build (drop c.args.offset (slices_in c.args.store.now))) c.in_ok-judge_two.ensures.left_fits.sound))
