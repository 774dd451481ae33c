use Rattle.std.proofs.Common.{◌≤◌, ◌<◌, arith}
use Rattle.columnar_base.specs.ChangeLaws.{passed_on}
use Rattle.columnar_base.specs.Faults.{fault_of}
use Rattle.columnar_base.specs.TwoPartsLaws.{two_right_at}
use Rattle.columnar_core.specs.Store.{slices_in}
use Rattle.columnar_schema.specs.ArrayLaws.{array_two, array_turns}
use Rattle.columnar_schema.specs.CountLaws.{others_counted, later_counted}
use Rattle.columnar_schema.specs.JudgeLaws.{left_refused, right_fits, first_fits, later_room, values_fit, errors_fit, values_refused, errors_refused, fallible_verdict, beside_verdict}
use Rattle.columnar_schema.specs.RecalledLaws.{distances_fit, distances_refused, distances_room, distances_turns, recalled_bits_fit, recalled_bits_refused, recalled_turns, recalled_values_fit, recalled_values_refused, recalled_values_turns, recalled_verdict}
use Rattle.columnar_schema.specs.RepeatedLaws.{repeated_bits_fit, repeated_bits_refused, repeated_part_turns, repeated_turns, repeated_values_fit, repeated_values_refused, repeated_verdict}
use Rattle.columnar_schema.specs.TypeLaws.{optional_two, fallible_two, lists_of_two, tuple_of_two, beside_of_two, others_fall, later_fall}
use Rattle.columnar_schema.specs.TurnLaws.{parts_turns, optional_turns, values_turns, errors_turns, fallible_turns}
use Rattle.columnar_schema.specs.BankLaws.{cases_accepted, cases_counted, cases_fall, cases_refused, cases_room, cases_turns, sum_room, sum_turns}
use Rattle.columnar_schema.proofs.judge.+judge_of.Goals as goal

pub returns-in_err-judge_tallied-in-Optional-clause-exact : goal.returns-in_err-judge_tallied-in-Optional-clause-exact
returns-in_err-judge_tallied-in-Optional-clause-exact g t c = rw (passed_on c.from_residual.result c.from_residual.ensures.1) (left_refused (optional_two c.args.schema.now c.in-Optional.is) (slices_in c.args.store.now) c.args.offset (fault_of c.in_err-judge_tallied-in-Optional.field-0.0) c.in_err-judge_tallied-in-Optional.ensures.exact)

pub returns-in_err-judge_of-in-Optional-clause-exact : goal.returns-in_err-judge_of-in-Optional-clause-exact
returns-in_err-judge_of-in-Optional-clause-exact g t c = rw (passed_on c.from_residual-in_err-judge_of-in-Optional.result c.from_residual-in_err-judge_of-in-Optional.ensures.1) (two_right_at (optional_two c.args.schema.now c.in-Optional.is) (slices_in c.args.store.now) c.args.offset (fault_of c.in_err-judge_of-in-Optional.field-0.0) c.in_ok-judge_tallied-in-Optional.ensures.exact (rw c.deref.ensures at c.in_err-judge_of-in-Optional.ensures.exact))

pub returns-in_err-judge_of-in-Optional-clause-turns : goal.returns-in_err-judge_of-in-Optional-clause-turns
returns-in_err-judge_of-in-Optional-clause-turns g t c = parts_turns (optional_two c.args.schema.now c.in-Optional.is) (slices_in c.args.store.now) c.args.offset _ _ _ (omega (arith, c.judge_tallied.ensures.turns)) (rw c.deref.ensures at c.judge_of.ensures.turns)

pub close_options-requires-clause-values : goal.close_options-requires-clause-values
close_options-requires-clause-values g t c = rw c.deref-in-Optional.ensures (right_fits (optional_two c.args.schema.now c.in-Optional.is) (slices_in c.args.store.now) c.args.offset c.requires.room (rw c.deref.ensures at c.in_ok-judge_of-in-Optional.ensures.exact))

pub returns-in_err-judge_tallied-in-Fallible-clause-exact : goal.returns-in_err-judge_tallied-in-Fallible-clause-exact
returns-in_err-judge_tallied-in-Fallible-clause-exact g t c = rw (passed_on c.from_residual-in_err-judge_tallied-in-Fallible.result c.from_residual-in_err-judge_tallied-in-Fallible.ensures.1) (left_refused (fallible_two c.args.schema.now c.in-Fallible.is) (slices_in c.args.store.now) c.args.offset (fault_of c.in_err-judge_tallied-in-Fallible.field-0.0) c.in_err-judge_tallied-in-Fallible.ensures.exact)

pub returns-in_err-judge_of-in-Fallible-clause-exact : goal.returns-in_err-judge_of-in-Fallible-clause-exact
returns-in_err-judge_of-in-Fallible-clause-exact g t c = rw (passed_on c.from_residual-in_err-judge_of-in-Fallible.result c.from_residual-in_err-judge_of-in-Fallible.ensures.1) (values_refused c.args.schema.now c.args.offset (slices_in c.args.store.now) (fault_of c.in_err-judge_of-in-Fallible.field-0.0) c.in-Fallible.is c.in_ok-judge_tallied-in-Fallible.ensures.exact (rw c.deref-in-Fallible.ensures at c.in_err-judge_of-in-Fallible.ensures.exact))

pub returns-in_err-judge_of-in-Fallible-clause-turns : goal.returns-in_err-judge_of-in-Fallible-clause-turns
returns-in_err-judge_of-in-Fallible-clause-turns g t c = values_turns c.args.schema.now c.args.offset (slices_in c.args.store.now) _ _ _ c.in-Fallible.is c.judge_tallied-in-Fallible.ensures.turns (rw c.deref-in-Fallible.ensures at c.judge_of-in-Fallible.ensures.turns)

pub returns-in_err-judge_of-in-Fallible-2-clause-exact : goal.returns-in_err-judge_of-in-Fallible-2-clause-exact
returns-in_err-judge_of-in-Fallible-2-clause-exact g t c = rw (passed_on c.from_residual-in_err-judge_of-in-Fallible-2.result c.from_residual-in_err-judge_of-in-Fallible-2.ensures.1) (errors_refused c.args.schema.now c.args.offset (slices_in c.args.store.now) (fault_of c.in_err-judge_of-in-Fallible-2.field-0.0) c.in-Fallible.is c.in_ok-judge_tallied-in-Fallible.ensures.exact (rw c.deref-in-Fallible.ensures at c.in_ok-judge_of-in-Fallible.ensures.exact) (rw (c.slice_count_of.ensures, c.deref-in-Fallible-2.ensures, c.deref-in-Fallible-3.ensures) at c.in_err-judge_of-in-Fallible-2.ensures.exact))

pub returns-in_err-judge_of-in-Fallible-2-clause-turns : goal.returns-in_err-judge_of-in-Fallible-2-clause-turns
returns-in_err-judge_of-in-Fallible-2-clause-turns g t c = errors_turns c.args.schema.now c.args.offset (slices_in c.args.store.now) _ _ _ _ c.in-Fallible.is c.judge_tallied-in-Fallible.ensures.turns (rw c.deref-in-Fallible.ensures at c.judge_of-in-Fallible.ensures.turns) (rw (c.slice_count_of.ensures, c.deref-in-Fallible-2.ensures, c.deref-in-Fallible-3.ensures) at c.judge_of-in-Fallible-2.ensures.turns)

pub close_results-requires-clause-values : goal.close_results-requires-clause-values
close_results-requires-clause-values g t c = rw c.deref-in-Fallible-4.ensures (values_fit c.args.schema.now c.args.offset (slices_in c.args.store.now) c.in-Fallible.is c.requires.room (rw c.deref-in-Fallible.ensures at c.in_ok-judge_of-in-Fallible.ensures.exact))

pub close_results-requires-clause-errors : goal.close_results-requires-clause-errors
close_results-requires-clause-errors g t c = rw (c.deref-in-Fallible-5.ensures, c.slice_count_of.ensures, c.deref-in-Fallible-2.ensures) (errors_fit c.args.schema.now c.args.offset (slices_in c.args.store.now) c.in-Fallible.is c.requires.room (rw (c.slice_count_of.ensures, c.deref-in-Fallible-2.ensures, c.deref-in-Fallible-3.ensures) at c.in_ok-judge_of-in-Fallible-2.ensures.exact))

pub returns-in_err-judge_of-in-Lists-clause-exact : goal.returns-in_err-judge_of-in-Lists-clause-exact
returns-in_err-judge_of-in-Lists-clause-exact g t c = rw (passed_on c.from_residual-in_err-judge_of-in-Lists.result c.from_residual-in_err-judge_of-in-Lists.ensures.1) (two_right_at (lists_of_two c.args.schema.now c.in-Lists.is) (slices_in c.args.store.now) c.args.offset (fault_of c.in_err-judge_of-in-Lists.field-0.0) c.in_ok-judge_bounds-in-Lists.ensures.exact (rw (c.bounds_slices.ensures, c.deref-in-Lists.ensures) at c.in_err-judge_of-in-Lists.ensures.exact))

pub close_lists-requires-clause-values : goal.close_lists-requires-clause-values
close_lists-requires-clause-values g t c = rw c.deref-in-Lists-2.ensures (right_fits (lists_of_two c.args.schema.now c.in-Lists.is) (slices_in c.args.store.now) c.args.offset c.requires.room (rw (c.bounds_slices.ensures, c.deref-in-Lists.ensures) at c.in_ok-judge_of-in-Lists.ensures.exact))

pub judge_of-requires-in-Tuple-2 : goal.judge_of-requires-in-Tuple-2
judge_of-requires-in-Tuple-2 g t c κs within = (
  rw c.decreases at (others_fall c.args.schema.now c.deref-in-Tuple-3.result.now c.in-Tuple.is c.deref-in-Tuple-3.ensures),
  (
    within,
    (
      rw c.deref-in-Tuple-3.ensures (others_counted c.args.schema.now c.in-Tuple.is c.requires.counted),
      rw (c.slice_count_of-in-Tuple.ensures, c.deref-in-Tuple-2.ensures, c.deref-in-Tuple-3.ensures) (later_room (tuple_of_two c.args.schema.now c.in-Tuple.is) c.args.offset (slices_in c.args.store.now) c.requires.room),
    ),
  ),
)

pub returns-in_err-judge_of-in-Tuple-2-clause-exact : goal.returns-in_err-judge_of-in-Tuple-2-clause-exact
returns-in_err-judge_of-in-Tuple-2-clause-exact g t c = rw (passed_on c.from_residual-in_err-judge_of-in-Tuple-2.result c.from_residual-in_err-judge_of-in-Tuple-2.ensures.1) (two_right_at (tuple_of_two c.args.schema.now c.in-Tuple.is) (slices_in c.args.store.now) c.args.offset (fault_of c.in_err-judge_of-in-Tuple-2.field-0.0) (rw c.deref-in-Tuple.ensures at c.in_ok-judge_of-in-Tuple.ensures.exact) (rw (c.slice_count_of-in-Tuple.ensures, c.deref-in-Tuple-2.ensures, c.deref-in-Tuple-3.ensures) at c.in_err-judge_of-in-Tuple-2.ensures.exact))

pub returns-in_err-judge_of-in-Tuple-2-clause-turns : goal.returns-in_err-judge_of-in-Tuple-2-clause-turns
returns-in_err-judge_of-in-Tuple-2-clause-turns g t c = parts_turns (tuple_of_two c.args.schema.now c.in-Tuple.is) (slices_in c.args.store.now) c.args.offset _ _ _ (rw c.deref-in-Tuple.ensures at c.judge_of-in-Tuple.ensures.turns) (rw (c.slice_count_of-in-Tuple.ensures, c.deref-in-Tuple-2.ensures, c.deref-in-Tuple-3.ensures) at c.judge_of-in-Tuple-2.ensures.turns)

pub close_tuple-requires-clause-others_counted : goal.close_tuple-requires-clause-others_counted
close_tuple-requires-clause-others_counted g t c = rw c.deref-in-Tuple-5.ensures (others_counted c.args.schema.now c.in-Tuple.is c.requires.counted)

pub close_tuple-requires-clause-field_fits : goal.close_tuple-requires-clause-field_fits
close_tuple-requires-clause-field_fits g t c = rw c.deref-in-Tuple-4.ensures (first_fits (tuple_of_two c.args.schema.now c.in-Tuple.is) (slices_in c.args.store.now) c.args.offset c.requires.room (rw c.deref-in-Tuple.ensures at c.in_ok-judge_of-in-Tuple.ensures.exact))

pub close_tuple-requires-clause-others_fit : goal.close_tuple-requires-clause-others_fit
close_tuple-requires-clause-others_fit g t c = rw (c.deref-in-Tuple-5.ensures, c.slice_count_of-in-Tuple.ensures, c.deref-in-Tuple-2.ensures) (right_fits (tuple_of_two c.args.schema.now c.in-Tuple.is) (slices_in c.args.store.now) c.args.offset c.requires.room (rw (c.slice_count_of-in-Tuple.ensures, c.deref-in-Tuple-2.ensures, c.deref-in-Tuple-3.ensures) at c.in_ok-judge_of-in-Tuple-2.ensures.exact))

pub judge_of-requires-in-Beside-2 : goal.judge_of-requires-in-Beside-2
judge_of-requires-in-Beside-2 g t c κs within = (
  rw c.decreases at (later_fall c.args.schema.now c.deref-in-Beside-2.result.now c.in-Beside.is c.deref-in-Beside-2.ensures),
  (
    within,
    (
      rw c.deref-in-Beside-2.ensures (later_counted c.args.schema.now c.in-Beside.is c.requires.counted),
      rw (c.slice_count_of-in-Beside.ensures, c.deref-in-Beside-3.ensures, c.deref-in-Beside-2.ensures) (later_room (beside_of_two c.args.schema.now c.in-Beside.is) c.args.offset (slices_in c.args.store.now) c.requires.room),
    ),
  ),
)

pub returns-in_ok-judge_of-in-Optional-clause-turns : goal.returns-in_ok-judge_of-in-Optional-clause-turns
returns-in_ok-judge_of-in-Optional-clause-turns g t c = optional_turns c.args.schema.now c.args.offset (slices_in c.args.store.now) _ _ _ _ c.in-Optional.is (first_fits (optional_two c.args.schema.now c.in-Optional.is) (slices_in c.args.store.now) c.args.offset c.requires.room c.in_ok-judge_tallied-in-Optional.ensures.exact) c.judge_tallied.ensures.turns (rw c.deref.ensures at c.judge_of.ensures.turns) c.close_options.ensures.turns

pub returns-in_ok-judge_of-in-Fallible-2-clause-exact : goal.returns-in_ok-judge_of-in-Fallible-2-clause-exact
returns-in_ok-judge_of-in-Fallible-2-clause-exact g t c = fallible_verdict c.args.schema.now c.args.offset (slices_in c.args.store.now) _ c.in-Fallible.is (rw (c.deref-in-Fallible-4.ensures, c.deref-in-Fallible-5.ensures) at c.close_results.ensures.exact)

pub returns-in_ok-judge_of-in-Fallible-2-clause-turns : goal.returns-in_ok-judge_of-in-Fallible-2-clause-turns
returns-in_ok-judge_of-in-Fallible-2-clause-turns g t c = fallible_turns c.args.schema.now c.args.offset (slices_in c.args.store.now) _ _ _ _ _ c.in-Fallible.is (first_fits (fallible_two c.args.schema.now c.in-Fallible.is) (slices_in c.args.store.now) c.args.offset c.requires.room c.in_ok-judge_tallied-in-Fallible.ensures.exact) c.judge_tallied-in-Fallible.ensures.turns (rw c.deref-in-Fallible.ensures at c.judge_of-in-Fallible.ensures.turns) (rw (c.slice_count_of.ensures, c.deref-in-Fallible-2.ensures, c.deref-in-Fallible-3.ensures) at c.judge_of-in-Fallible-2.ensures.turns) c.close_results.ensures.turns

pub returns-in_ok-judge_of-in-Tuple-2-clause-turns : goal.returns-in_ok-judge_of-in-Tuple-2-clause-turns
returns-in_ok-judge_of-in-Tuple-2-clause-turns g t c = parts_turns (tuple_of_two c.args.schema.now c.in-Tuple.is) (slices_in c.args.store.now) c.args.offset _ _ _ (rw c.deref-in-Tuple.ensures at c.judge_of-in-Tuple.ensures.turns) (rw (c.slice_count_of-in-Tuple.ensures, c.deref-in-Tuple-2.ensures, c.deref-in-Tuple-3.ensures) at c.judge_of-in-Tuple-2.ensures.turns)

pub returns-in_ok-judge_of-in-Beside-clause-exact : goal.returns-in_ok-judge_of-in-Beside-clause-exact
returns-in_ok-judge_of-in-Beside-clause-exact g t c = beside_verdict c.args.schema.now c.args.offset c.slice_count_of-in-Beside.result (slices_in c.args.store.now) _ c.in-Beside.is (rw c.deref-in-Beside-3.ensures at c.slice_count_of-in-Beside.ensures) (rw c.deref-in-Beside.ensures at c.in_ok-judge_of-in-Beside.ensures.exact) (rw c.deref-in-Beside-2.ensures at c.judge_of-in-Beside-2.ensures.exact)

pub returns-in_ok-judge_of-in-Beside-clause-turns : goal.returns-in_ok-judge_of-in-Beside-clause-turns
returns-in_ok-judge_of-in-Beside-clause-turns g t c = parts_turns (beside_of_two c.args.schema.now c.in-Beside.is) (slices_in c.args.store.now) c.args.offset _ _ _ (rw c.deref-in-Beside.ensures at c.judge_of-in-Beside.ensures.turns) (rw (c.slice_count_of-in-Beside.ensures, c.deref-in-Beside-2.ensures, c.deref-in-Beside-3.ensures) at c.judge_of-in-Beside-2.ensures.turns)

pub returns-in_err-judge_of-in-Array-clause-exact : goal.returns-in_err-judge_of-in-Array-clause-exact
returns-in_err-judge_of-in-Array-clause-exact g t c = rw (passed_on c.from_residual-in_err-judge_of-in-Array.result c.from_residual-in_err-judge_of-in-Array.ensures.1) (two_right_at (array_two c.args.schema.now c.in-Array.is) (slices_in c.args.store.now) c.args.offset (fault_of c.in_err-judge_of-in-Array.field-0.0) c.in_ok-judge_bounds-in-Array.ensures.exact (rw c.deref-in-Array.ensures at c.in_err-judge_of-in-Array.ensures.exact))

pub close_lists-requires-in-Array-clause-values : goal.close_lists-requires-in-Array-clause-values
close_lists-requires-in-Array-clause-values g t c = rw c.deref-in-Array-2.ensures (right_fits (array_two c.args.schema.now c.in-Array.is) (slices_in c.args.store.now) c.args.offset c.requires.room (rw c.deref-in-Array.ensures at c.in_ok-judge_of-in-Array.ensures.exact))

pub returns-in_err-judge_of-in-Array-clause-turns : goal.returns-in_err-judge_of-in-Array-clause-turns
returns-in_err-judge_of-in-Array-clause-turns g t c = parts_turns (array_two c.args.schema.now c.in-Array.is) (slices_in c.args.store.now) c.args.offset _ _ _ (omega (arith, c.judge_bounds-in-Array.ensures.turns)) (rw c.deref-in-Array.ensures at c.judge_of-in-Array.ensures.turns)

pub returns-in_ok-judge_of-in-Array-clause-turns : goal.returns-in_ok-judge_of-in-Array-clause-turns
returns-in_ok-judge_of-in-Array-clause-turns g t c = array_turns c.args.schema.now c.args.offset (slices_in c.args.store.now) _ _ _ _ c.in-Array.is c.judge_bounds-in-Array.ensures.turns (rw c.deref-in-Array.ensures at c.judge_of-in-Array.ensures.turns) c.close_lists-in-Array.ensures.turns

pub returns-in_err-judge_tallied-in-Repeated-clause-exact : goal.returns-in_err-judge_tallied-in-Repeated-clause-exact
returns-in_err-judge_tallied-in-Repeated-clause-exact g t c = rw (passed_on c.from_residual-in_err-judge_tallied-in-Repeated.result c.from_residual-in_err-judge_tallied-in-Repeated.ensures.1) (repeated_bits_refused c.args.schema.now c.args.offset (slices_in c.args.store.now) (fault_of c.in_err-judge_tallied-in-Repeated.field-0.0) c.in-Repeated.is c.in_err-judge_tallied-in-Repeated.ensures.exact)

pub returns-in_err-judge_of-in-Repeated-clause-exact : goal.returns-in_err-judge_of-in-Repeated-clause-exact
returns-in_err-judge_of-in-Repeated-clause-exact g t c = rw (passed_on c.from_residual-in_err-judge_of-in-Repeated.result c.from_residual-in_err-judge_of-in-Repeated.ensures.1) (repeated_values_refused c.args.schema.now c.args.offset (slices_in c.args.store.now) (fault_of c.in_err-judge_of-in-Repeated.field-0.0) c.in-Repeated.is c.in_ok-judge_tallied-in-Repeated.ensures.exact (rw c.deref-in-Repeated.ensures at c.in_err-judge_of-in-Repeated.ensures.exact))

pub returns-in_err-judge_of-in-Repeated-clause-turns : goal.returns-in_err-judge_of-in-Repeated-clause-turns
returns-in_err-judge_of-in-Repeated-clause-turns g t c = repeated_part_turns c.args.schema.now c.args.offset (slices_in c.args.store.now) _ _ _ c.in-Repeated.is (omega (arith, c.judge_tallied-in-Repeated.ensures.turns)) (rw c.deref-in-Repeated.ensures at c.judge_of-in-Repeated.ensures.turns)

pub close_repeats-requires-clause-values : goal.close_repeats-requires-clause-values
close_repeats-requires-clause-values g t c = rw c.deref-in-Repeated-2.ensures (repeated_values_fit c.args.schema.now c.args.offset (slices_in c.args.store.now) c.in-Repeated.is c.requires.room (rw c.deref-in-Repeated.ensures at c.in_ok-judge_of-in-Repeated.ensures.exact))

pub close_repeats-requires-clause-bits : goal.close_repeats-requires-clause-bits
close_repeats-requires-clause-bits g t c = repeated_bits_fit c.args.schema.now c.args.offset (slices_in c.args.store.now) c.in-Repeated.is c.requires.room c.in_ok-judge_tallied-in-Repeated.ensures.exact

pub returns-in_ok-judge_of-in-Repeated-clause-exact : goal.returns-in_ok-judge_of-in-Repeated-clause-exact
returns-in_ok-judge_of-in-Repeated-clause-exact g t c = repeated_verdict c.args.schema.now c.args.offset (slices_in c.args.store.now) _ c.in-Repeated.is (rw c.deref-in-Repeated-2.ensures at c.close_repeats.ensures.exact)

pub returns-in_ok-judge_of-in-Repeated-clause-turns : goal.returns-in_ok-judge_of-in-Repeated-clause-turns
returns-in_ok-judge_of-in-Repeated-clause-turns g t c = repeated_turns c.args.schema.now c.args.offset (slices_in c.args.store.now) _ _ _ _ c.in-Repeated.is (repeated_bits_fit c.args.schema.now c.args.offset (slices_in c.args.store.now) c.in-Repeated.is c.requires.room c.in_ok-judge_tallied-in-Repeated.ensures.exact) c.judge_tallied-in-Repeated.ensures.turns (rw c.deref-in-Repeated.ensures at c.judge_of-in-Repeated.ensures.turns) c.close_repeats.ensures.turns

pub returns-in_err-judge_tallied-in-Recalled-clause-exact : goal.returns-in_err-judge_tallied-in-Recalled-clause-exact
returns-in_err-judge_tallied-in-Recalled-clause-exact g t c = rw (passed_on c.from_residual-in_err-judge_tallied-in-Recalled.result c.from_residual-in_err-judge_tallied-in-Recalled.ensures.1) (recalled_bits_refused c.args.schema.now c.args.offset (slices_in c.args.store.now) (fault_of c.in_err-judge_tallied-in-Recalled.field-0.0) c.in-Recalled.is c.in_err-judge_tallied-in-Recalled.ensures.exact)

pub returns-in_err-judge_of-in-Recalled-clause-exact : goal.returns-in_err-judge_of-in-Recalled-clause-exact
returns-in_err-judge_of-in-Recalled-clause-exact g t c = rw (passed_on c.from_residual-in_err-judge_of-in-Recalled.result c.from_residual-in_err-judge_of-in-Recalled.ensures.1) (recalled_values_refused c.args.schema.now c.args.offset (slices_in c.args.store.now) (fault_of c.in_err-judge_of-in-Recalled.field-0.0) c.in-Recalled.is c.in_ok-judge_tallied-in-Recalled.ensures.exact (rw c.deref-in-Recalled.ensures at c.in_err-judge_of-in-Recalled.ensures.exact))

pub returns-in_err-judge_of-in-Recalled-clause-turns : goal.returns-in_err-judge_of-in-Recalled-clause-turns
returns-in_err-judge_of-in-Recalled-clause-turns g t c = recalled_values_turns c.args.schema.now c.args.offset (slices_in c.args.store.now) _ _ _ c.in-Recalled.is c.judge_tallied-in-Recalled.ensures.turns (rw c.deref-in-Recalled.ensures at c.judge_of-in-Recalled.ensures.turns)

pub judge_leaf-requires-in-Recalled : goal.judge_leaf-requires-in-Recalled
judge_leaf-requires-in-Recalled g t c = rw (c.slice_count_of-in-Recalled.ensures, c.deref-in-Recalled-2.ensures) (distances_room c.args.schema.now c.args.offset (slices_in c.args.store.now) c.in-Recalled.is c.requires.room)

pub returns-in_err-judge_leaf-in-Recalled-clause-exact : goal.returns-in_err-judge_leaf-in-Recalled-clause-exact
returns-in_err-judge_leaf-in-Recalled-clause-exact g t c = rw (passed_on c.from_residual-in_err-judge_leaf-in-Recalled.result c.from_residual-in_err-judge_leaf-in-Recalled.ensures.1) (distances_refused c.args.schema.now c.args.offset (slices_in c.args.store.now) (fault_of c.in_err-judge_leaf-in-Recalled.field-0.0) c.in-Recalled.is c.in_ok-judge_tallied-in-Recalled.ensures.exact (rw c.deref-in-Recalled.ensures at c.in_ok-judge_of-in-Recalled.ensures.exact) (rw (c.slice_count_of-in-Recalled.ensures, c.deref-in-Recalled-2.ensures) at c.in_err-judge_leaf-in-Recalled.ensures.exact))

pub returns-in_err-judge_leaf-in-Recalled-clause-turns : goal.returns-in_err-judge_leaf-in-Recalled-clause-turns
returns-in_err-judge_leaf-in-Recalled-clause-turns g t c = distances_turns c.args.schema.now c.args.offset (slices_in c.args.store.now) _ _ _ _ c.in-Recalled.is c.judge_tallied-in-Recalled.ensures.turns (rw c.deref-in-Recalled.ensures at c.judge_of-in-Recalled.ensures.turns) (rw (c.slice_count_of-in-Recalled.ensures, c.deref-in-Recalled-2.ensures) at c.judge_leaf-in-Recalled.ensures.turns)

pub close_lookbacks-requires-clause-bits : goal.close_lookbacks-requires-clause-bits
close_lookbacks-requires-clause-bits g t c = recalled_bits_fit c.args.schema.now c.args.offset (slices_in c.args.store.now) c.in-Recalled.is c.requires.room c.in_ok-judge_tallied-in-Recalled.ensures.exact

pub close_lookbacks-requires-clause-values : goal.close_lookbacks-requires-clause-values
close_lookbacks-requires-clause-values g t c = rw c.deref-in-Recalled-3.ensures (recalled_values_fit c.args.schema.now c.args.offset (slices_in c.args.store.now) c.in-Recalled.is c.requires.room (rw c.deref-in-Recalled.ensures at c.in_ok-judge_of-in-Recalled.ensures.exact))

pub close_lookbacks-requires-clause-distances : goal.close_lookbacks-requires-clause-distances
close_lookbacks-requires-clause-distances g t c = rw (c.slice_count_of-in-Recalled.ensures, c.deref-in-Recalled-2.ensures) (distances_fit c.args.schema.now c.args.offset (slices_in c.args.store.now) c.in-Recalled.is c.requires.room (rw (c.slice_count_of-in-Recalled.ensures, c.deref-in-Recalled-2.ensures) at c.in_ok-judge_leaf-in-Recalled.ensures.exact))

pub returns-in_ok-judge_leaf-in-Recalled-clause-exact : goal.returns-in_ok-judge_leaf-in-Recalled-clause-exact
returns-in_ok-judge_leaf-in-Recalled-clause-exact g t c = recalled_verdict c.args.schema.now c.args.offset (slices_in c.args.store.now) _ c.in-Recalled.is (rw c.deref-in-Recalled-3.ensures at c.close_lookbacks.ensures.exact)

pub returns-in_ok-judge_leaf-in-Recalled-clause-turns : goal.returns-in_ok-judge_leaf-in-Recalled-clause-turns
returns-in_ok-judge_leaf-in-Recalled-clause-turns g t c = recalled_turns c.args.schema.now c.args.offset (slices_in c.args.store.now) _ _ _ _ _ c.in-Recalled.is (recalled_bits_fit c.args.schema.now c.args.offset (slices_in c.args.store.now) c.in-Recalled.is c.requires.room c.in_ok-judge_tallied-in-Recalled.ensures.exact) c.judge_tallied-in-Recalled.ensures.turns (rw c.deref-in-Recalled.ensures at c.judge_of-in-Recalled.ensures.turns) (rw (c.slice_count_of-in-Recalled.ensures, c.deref-in-Recalled-2.ensures) at c.judge_leaf-in-Recalled.ensures.turns) c.close_lookbacks.ensures.turns

pub returns-in_err-judge_of-in-Sum-clause-exact : goal.returns-in_err-judge_of-in-Sum-clause-exact
returns-in_err-judge_of-in-Sum-clause-exact g t c = rw (passed_on c.from_residual-in_err-judge_of-in-Sum.result c.from_residual-in_err-judge_of-in-Sum.ensures.1) (cases_refused c.args.schema.now c.args.offset (slices_in c.args.store.now) (fault_of c.in_err-judge_of-in-Sum.field-0.0) c.in-Sum.is (rw c.deref-in-Sum.ensures at c.in_err-judge_of-in-Sum.ensures.exact))

pub returns-in_err-judge_of-in-Sum-clause-turns : goal.returns-in_err-judge_of-in-Sum-clause-turns
returns-in_err-judge_of-in-Sum-clause-turns g t c = cases_turns c.args.schema.now c.args.offset (slices_in c.args.store.now) _ _ c.in-Sum.is (rw c.deref-in-Sum.ensures at c.judge_of-in-Sum.ensures.turns)

pub judge_of-requires-in-Sum : goal.judge_of-requires-in-Sum
judge_of-requires-in-Sum g t c κs within = (
  rw c.decreases at (cases_fall c.args.schema.now c.deref-in-Sum.result.now c.in-Sum.is c.deref-in-Sum.ensures),
  (
    within,
    (
      rw c.deref-in-Sum.ensures (cases_counted c.args.schema.now c.in-Sum.is c.requires.counted),
      rw c.deref-in-Sum.ensures (cases_room c.args.schema.now c.args.offset (slices_in c.args.store.now) c.in-Sum.is c.requires.room),
    ),
  ),
)

pub close_sum-requires-clause-fits : goal.close_sum-requires-clause-fits
close_sum-requires-clause-fits g t c = rw c.deref-in-Sum-2.ensures (cases_accepted c.args.schema.now c.args.offset (slices_in c.args.store.now) c.in-Sum.is c.requires.room (rw c.deref-in-Sum.ensures at c.in_ok-judge_of-in-Sum.ensures.exact))

pub close_sum-requires-clause-room : goal.close_sum-requires-clause-room
close_sum-requires-clause-room g t c = rw (c.slice_count_of-in-Sum.ensures, c.deref-in-Sum-3.ensures) (sum_room c.args.schema.now c.args.offset (slices_in c.args.store.now) c.in-Sum.is c.requires.room)

pub returns-in_ok-judge_of-in-Sum-clause-turns : goal.returns-in_ok-judge_of-in-Sum-clause-turns
returns-in_ok-judge_of-in-Sum-clause-turns g t c = sum_turns c.args.schema.now c.args.offset (slices_in c.args.store.now) _ _ _ c.in-Sum.is (rw c.deref-in-Sum.ensures at c.judge_of-in-Sum.ensures.turns) (rw (c.slice_count_of-in-Sum.ensures, c.deref-in-Sum-3.ensures) at c.close_sum.ensures.turns)
