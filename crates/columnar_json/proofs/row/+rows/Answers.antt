use Rattle.std.proofs.Common.{[], ◌-◌, ◌∙◌, arith, sym, ◌≡◌, ◌+◌, ap, rules}
use Rattle.std.specs.Prelude.{Err, Ok, codes}
use Rattle.columnar_core.specs.Store.{slices_in}
use Rattle.columnar_schema.specs.CountLaws.{first_counted, others_counted, field_counted, later_counted}
use Rattle.columnar_schema.specs.TypeLaws.{first_fit, others_fit, field_fit, later_fit}
use Rattle.columnar_json.specs.ArrayRowLaws.{array_bound, array_counted, array_falls, array_fit, array_in, array_refused, array_row, array_wrote, items_length}
use Rattle.columnar_json.specs.ItemLaws.{item_failed, more_items}
use Rattle.columnar_json.specs.Json.{flaws_of, json_of}
use Rattle.columnar_json.specs.Pieces.{plain}
use Rattle.columnar_json.specs.PartLaws.{bit_in, somes_fit, some_in, some_row, none_row, some_falls, some_counted, mark_in, values_fit, errors_fit, ok_in, err_in, ok_row, err_row, zeros_before, ones_before, ok_falls, err_falls, ok_counted, err_counted, bound_in, items_fit, items_in, items_row, items_fall, items_counted, only_row, fields_in, fields_row, fields_fall, later_in, later_row, later_falls, part_row}
use Rattle.columnar_json.specs.LookbackRowLaws.{distance_in, distances_fit, first_value, lookback_bit, looks_back, recalled_bits_fit, recalled_counted, recalled_falls, recalled_fit, recalled_wrote, values_before}
use Rattle.columnar_json.specs.RepeatRowLaws.{new_value, repeat_bit, repeat_bits_fit, repeat_counted, repeat_falls, repeat_fit, repeat_wrote, value_again, value_before}
use Rattle.columnar_json.specs.RowTextLaws.{some_wrote, none_wrote, ok_wrote, err_wrote, list_wrote, solo_wrote, tuple_wrote, beside_wrote, field_wrote}
use Rattle.columnar_json.specs.Stored.{items_flaws, items_json, stored_row, stored_rows}
use Rattle.columnar_json.specs.WrittenLaws.{between_failed, between_wrote, row_goes_on, row_passed, wrote_plain}
use Rattle.columnar_schema.specs.BankLaws.{cases_counted, cases_fit, indexes_fit, value_fit}
use Rattle.columnar_json.specs.CaseTextLaws.{case_in, case_row, case_wrote, cases_measure, first_in, first_measure, form_in, later_known, later_measure, later_value_in, named_wrote, sum_wrote, value_row}
use Rattle.columnar_json.proofs.row.+rows.Goals as goal

pub write_between-returns : goal.write_between-returns
write_between-returns t c = between_wrote c.args.out.now.items c.push_bytes.new.out.items c.write_row.new.out.items c.push_bytes-2.new.out.items c.args.before.now _ c.args.after.now _ c.push_bytes-2.result c.in_ok-push_bytes.ensures c.in_ok-write_row.ensures c.push_bytes-2.ensures

pub write_fields-returns : goal.write_fields-returns
write_fields-returns t c =
    let later = rw c.slice_count_of.ensures at c.write_row-2.ensures in
    row_goes_on c.args.out.now.items c.write_row.new.out.items c.write_row-2.new.out.items _ _ _ _ c.write_row-2.result c.in_ok-write_row.ensures (row_goes_on c.write_row.new.out.items c.push_bytes.new.out.items c.write_row-2.new.out.items (plain (codes ",")) _ [] _ c.write_row-2.result (wrote_plain c.write_row.new.out.items c.push_bytes.new.out.items (codes ",") [] (Ok tt) c.in_ok-push_bytes.ensures) later)

pub write_items-returns-in_err-write_between : goal.write_items-returns-in_err-write_between
write_items-returns-in_err-write_between t c =
    let rs = stored_rows c.args.schema.now (slices_in c.args.store.now) c.args.offset in
    row_passed c.args.out.now.items c.write_between.new.out.items (items_json c.args.schema.now rs c.args.lower (c.args.upper - c.args.lower)) (items_flaws c.args.schema.now rs c.args.lower (c.args.upper - c.args.lower)) c.in_err-write_between.field-0.0 c.from_residual.result c.from_residual.ensures.1
    (item_failed c.args.schema.now rs c.args.lower c.args.upper c.loop-i.i c.args.out.now.items c.loop-i.out.items c.write_between.new.out.items c.in_err-write_between.field-0.0 (omega (arith, c.loop-i.auto.i)) c.loop-i-test.true (omega (arith, c.loop-i-test.true, c.requires.in_range)) c.loop-i.invariant c.in_err-write_between.ensures)

pub write_items-loop-i-preserved : goal.write_items-loop-i-preserved
write_items-loop-i-preserved t c = more_items c.args.schema.now (stored_rows c.args.schema.now (slices_in c.args.store.now) c.args.offset) c.args.lower c.loop-i.i c.args.out.now.items c.loop-i.out.items c.write_between.new.out.items (omega (arith, c.loop-i.auto.i)) (omega (arith, c.loop-i-test.true, c.requires.in_range)) c.loop-i.invariant (rw c.comma_unless-comma.ensures at c.in_ok-write_between.ensures)

pub write_row-bit_at-present-requires-clause-in_range : goal.write_row-bit_at-present-requires-clause-in_range
write_row-bit_at-present-requires-clause-in_range t c = bit_in c.args.schema.now c.args.offset (slices_in c.args.store.now) c.args.index c.in-Optional.is c.requires.in_range

pub write_row-write_row-requires : goal.write_row-write_row-requires
write_row-write_row-requires t c = (
  rw c.decreases at (some_falls c.args.schema.now c.deref.result.now c.in-Optional.is c.deref.ensures),
  (
    some_counted c.args.schema.now c.deref.result.now c.in-Optional.is c.deref.ensures c.requires.counted,
    (
      rw c.deref.ensures (somes_fit c.args.schema.now c.args.offset (slices_in c.args.store.now) c.in-Optional.is c.requires.fits),
      rw (c.deref.ensures, c.bit_at-present.ensures.rank) (some_in c.args.schema.now c.args.offset (slices_in c.args.store.now) c.args.index c.in-Optional.is c.requires.fits (rw c.if-present.true at c.bit_at-present.ensures.bit)),
    ),
  ),
)

pub write_row-returns-then-present : goal.write_row-returns-then-present
write_row-returns-then-present t c = some_wrote c.args.schema.now _ _ c.args.out.now.items c.write_row.new.out.items c.write_row.result c.in-Optional.is (some_row c.args.schema.now c.args.offset (slices_in c.args.store.now) c.args.index c.in-Optional.is c.requires.fits (rw c.if-present.true at c.bit_at-present.ensures.bit)) (rw (c.deref.ensures, c.bit_at-present.ensures.rank) at c.write_row.ensures)

pub write_row-returns-else-present : goal.write_row-returns-else-present
write_row-returns-else-present t c = none_wrote c.args.schema.now _ c.args.out.now.items c.push_bytes.new.out.items c.push_bytes.result c.in-Optional.is (none_row c.args.schema.now c.args.offset (slices_in c.args.store.now) c.args.index c.in-Optional.is (rw c.if-present.false at c.bit_at-present.ensures.bit)) c.push_bytes.ensures

pub write_row-bit_at-is_ok-requires-clause-in_range : goal.write_row-bit_at-is_ok-requires-clause-in_range
write_row-bit_at-is_ok-requires-clause-in_range t c = mark_in c.args.schema.now c.args.offset (slices_in c.args.store.now) c.args.index c.in-Fallible.is c.requires.in_range

pub write_row-write_between-requires : goal.write_row-write_between-requires
write_row-write_between-requires t c = (
  rw c.decreases at (ok_falls c.args.schema.now c.deref-then-is_ok.result.now c.in-Fallible.is c.deref-then-is_ok.ensures),
  (
    ok_counted c.args.schema.now c.deref-then-is_ok.result.now c.in-Fallible.is c.deref-then-is_ok.ensures c.requires.counted,
    (
      rw c.deref-then-is_ok.ensures (values_fit c.args.schema.now c.args.offset (slices_in c.args.store.now) c.in-Fallible.is c.requires.fits),
      rw (c.deref-then-is_ok.ensures, c.bit_at-is_ok.ensures.rank) (ok_in c.args.schema.now c.args.offset (slices_in c.args.store.now) c.args.index c.in-Fallible.is c.requires.fits (rw c.if-is_ok.true at c.bit_at-is_ok.ensures.bit)),
    ),
  ),
)

pub write_row-returns-then-is_ok : goal.write_row-returns-then-is_ok
write_row-returns-then-is_ok t c = ok_wrote c.args.schema.now _ _ c.args.out.now.items c.write_between.new.out.items c.write_between.result c.in-Fallible.is (ok_row c.args.schema.now c.args.offset (slices_in c.args.store.now) c.args.index c.in-Fallible.is c.requires.fits (rw c.if-is_ok.true at c.bit_at-is_ok.ensures.bit)) (rw (c.deref-then-is_ok.ensures, c.bit_at-is_ok.ensures.rank) at c.write_between.ensures)

pub write_row-overflow_sub-index : goal.write_row-overflow_sub-index
write_row-overflow_sub-index t c = ones_before c.args.schema.now c.args.offset (slices_in c.args.store.now) c.args.index c.bit_at-is_ok.result.1 c.in-Fallible.is c.bit_at-is_ok.ensures.rank

pub write_row-write_between-requires-else-is_ok : goal.write_row-write_between-requires-else-is_ok
write_row-write_between-requires-else-is_ok t c =
    let z = zeros_before c.args.schema.now c.args.offset (slices_in c.args.store.now) c.args.index c.bit_at-is_ok.result.1 c.in-Fallible.is c.requires.in_range c.bit_at-is_ok.ensures.rank in (
      rw c.decreases at (err_falls c.args.schema.now c.deref-else-is_ok-2.result.now c.in-Fallible.is c.deref-else-is_ok-2.ensures),
      (
        err_counted c.args.schema.now c.deref-else-is_ok-2.result.now c.in-Fallible.is c.deref-else-is_ok-2.ensures c.requires.counted,
        (
          rw (c.deref-else-is_ok-2.ensures, c.slice_count_of.ensures, c.deref-else-is_ok.ensures) (errors_fit c.args.schema.now c.args.offset (slices_in c.args.store.now) c.in-Fallible.is c.requires.fits),
          rw (c.deref-else-is_ok-2.ensures, c.slice_count_of.ensures, c.deref-else-is_ok.ensures, z) (err_in c.args.schema.now c.args.offset (slices_in c.args.store.now) c.args.index c.in-Fallible.is c.requires.fits (rw c.if-is_ok.false at c.bit_at-is_ok.ensures.bit)),
        ),
      ),
    )

pub write_row-returns-else-is_ok : goal.write_row-returns-else-is_ok
write_row-returns-else-is_ok t c =
    let z = zeros_before c.args.schema.now c.args.offset (slices_in c.args.store.now) c.args.index c.bit_at-is_ok.result.1 c.in-Fallible.is c.requires.in_range c.bit_at-is_ok.ensures.rank in
    err_wrote c.args.schema.now _ _ c.args.out.now.items c.write_between-else-is_ok.new.out.items c.write_between-else-is_ok.result c.in-Fallible.is (err_row c.args.schema.now c.args.offset (slices_in c.args.store.now) c.args.index c.in-Fallible.is c.requires.fits (rw c.if-is_ok.false at c.bit_at-is_ok.ensures.bit)) (rw (c.slice_count_of.ensures, c.deref-else-is_ok.ensures, c.deref-else-is_ok-2.ensures, z) at c.write_between-else-is_ok.ensures)

pub write_row-range_at-lower-requires-clause-in_range : goal.write_row-range_at-lower-requires-clause-in_range
write_row-range_at-lower-requires-clause-in_range t c = bound_in c.args.schema.now c.args.offset (slices_in c.args.store.now) c.args.index c.in-Lists.is c.requires.in_range

pub write_row-write_items-requires : goal.write_row-write_items-requires
write_row-write_items-requires t c =
    let r = items_in c.args.schema.now c.args.offset (slices_in c.args.store.now) c.args.index c.range_at-lower.result.0 c.range_at-lower.result.1 c.in-Lists.is c.requires.fits c.range_at-lower.ensures.lower c.range_at-lower.ensures.upper in (
      rw c.decreases at (items_fall c.args.schema.now c.deref-in-Lists.result.now c.in-Lists.is c.deref-in-Lists.ensures),
      (
        items_counted c.args.schema.now c.deref-in-Lists.result.now c.in-Lists.is c.deref-in-Lists.ensures c.requires.counted,
        (
          rw (c.deref-in-Lists.ensures, c.bounds_slices.ensures) (items_fit c.args.schema.now c.args.offset (slices_in c.args.store.now) c.in-Lists.is c.requires.fits),
          (
            r.0,
            rw (c.deref-in-Lists.ensures, c.bounds_slices.ensures) r.1,
          ),
        ),
      ),
    )

pub write_row-returns-in_err-write_items-in-Lists : goal.write_row-returns-in_err-write_items-in-Lists
write_row-returns-in_err-write_items-in-Lists t c =
    let row = stored_row c.args.schema.now (slices_in c.args.store.now) c.args.offset c.args.index in
    row_passed c.args.out.now.items c.write_items.new.out.items (json_of c.args.schema.now row) (flaws_of c.args.schema.now row) c.in_err-write_items-in-Lists.field-0.0 c.from_residual-in_err-write_items-in-Lists.result c.from_residual-in_err-write_items-in-Lists.ensures.1
    (list_wrote c.args.schema.now row _ c.args.out.now.items c.write_items.new.out.items (Err c.in_err-write_items-in-Lists.field-0.0) c.in-Lists.is (items_row c.args.schema.now c.args.offset (slices_in c.args.store.now) c.args.index c.range_at-lower.result.0 c.range_at-lower.result.1 c.in-Lists.is c.range_at-lower.ensures.lower c.range_at-lower.ensures.upper)
    (between_failed c.args.out.now.items c.push_bytes-in-Lists.new.out.items c.write_items.new.out.items (codes "[") [] (codes "]") _ c.in_err-write_items-in-Lists.field-0.0 c.in_ok-push_bytes-in-Lists.ensures (rw (c.deref-in-Lists.ensures, c.bounds_slices.ensures) at c.in_err-write_items-in-Lists.ensures)))

pub write_row-returns-in_ok-write_items-in-Lists : goal.write_row-returns-in_ok-write_items-in-Lists
write_row-returns-in_ok-write_items-in-Lists t c =
    list_wrote c.args.schema.now _ _ c.args.out.now.items c.push_bytes-in-Lists-2.new.out.items c.push_bytes-in-Lists-2.result c.in-Lists.is (items_row c.args.schema.now c.args.offset (slices_in c.args.store.now) c.args.index c.range_at-lower.result.0 c.range_at-lower.result.1 c.in-Lists.is c.range_at-lower.ensures.lower c.range_at-lower.ensures.upper)
    (between_wrote c.args.out.now.items c.push_bytes-in-Lists.new.out.items c.write_items.new.out.items c.push_bytes-in-Lists-2.new.out.items (codes "[") _ (codes "]") _ c.push_bytes-in-Lists-2.result c.in_ok-push_bytes-in-Lists.ensures (rw (c.deref-in-Lists.ensures, c.bounds_slices.ensures) at c.in_ok-write_items-in-Lists.ensures) c.push_bytes-in-Lists-2.ensures)

pub write_row-returns-in-Solo : goal.write_row-returns-in-Solo
write_row-returns-in-Solo t c = solo_wrote c.args.schema.now _ _ c.args.out.now.items c.write_between-in-Solo.new.out.items c.write_between-in-Solo.result c.in-Solo.is (only_row c.args.schema.now c.args.offset (slices_in c.args.store.now) c.args.index c.in-Solo.is c.requires.in_range) (rw (c.deref-in-Solo.ensures, c.before_fields.ensures, c.after_fields.ensures) at c.write_between-in-Solo.ensures)

pub write_row-write_fields-requires : goal.write_row-write_fields-requires
write_row-write_fields-requires t c =
    let r = fields_in c.args.schema.now c.args.offset (slices_in c.args.store.now) c.args.index c.in-Tuple.is c.requires.in_range in (
      rw c.decreases at (fields_fall c.args.schema.now c.deref-in-Tuple.result.now c.deref-in-Tuple-2.result.now c.in-Tuple.is c.deref-in-Tuple.ensures c.deref-in-Tuple-2.ensures),
      (
        rw c.deref-in-Tuple.ensures (first_counted c.args.schema.now c.in-Tuple.is c.requires.counted),
        (
          rw c.deref-in-Tuple-2.ensures (others_counted c.args.schema.now c.in-Tuple.is c.requires.counted),
          (
            rw c.deref-in-Tuple.ensures (first_fit c.args.schema.now c.args.offset (slices_in c.args.store.now) c.in-Tuple.is c.requires.fits),
            (
              rw (c.deref-in-Tuple.ensures, c.deref-in-Tuple-2.ensures) (others_fit c.args.schema.now c.args.offset (slices_in c.args.store.now) c.in-Tuple.is c.requires.fits),
              (
                rw c.deref-in-Tuple.ensures r.0,
                rw (c.deref-in-Tuple.ensures, c.deref-in-Tuple-2.ensures) r.1,
              ),
            ),
          ),
        ),
      ),
    )

pub write_row-returns-in_err-write_fields-in-Tuple : goal.write_row-returns-in_err-write_fields-in-Tuple
write_row-returns-in_err-write_fields-in-Tuple t c =
    let row = stored_row c.args.schema.now (slices_in c.args.store.now) c.args.offset c.args.index in
    row_passed c.args.out.now.items c.write_fields.new.out.items (json_of c.args.schema.now row) (flaws_of c.args.schema.now row) c.in_err-write_fields-in-Tuple.field-0.0 c.from_residual-in_err-write_fields-in-Tuple.result c.from_residual-in_err-write_fields-in-Tuple.ensures.1
    (tuple_wrote c.args.schema.now row _ _ c.args.out.now.items c.write_fields.new.out.items (Err c.in_err-write_fields-in-Tuple.field-0.0) c.in-Tuple.is (fields_row c.args.schema.now c.args.offset (slices_in c.args.store.now) c.args.index c.in-Tuple.is c.requires.in_range)
    (between_failed c.args.out.now.items c.push_bytes-in-Tuple.new.out.items c.write_fields.new.out.items _ [] [] _ c.in_err-write_fields-in-Tuple.field-0.0 (rw c.before_fields-in-Tuple.ensures at c.in_ok-push_bytes-in-Tuple.ensures) (rw (c.deref-in-Tuple.ensures, c.deref-in-Tuple-2.ensures) at c.in_err-write_fields-in-Tuple.ensures)))

pub write_row-returns-in_ok-write_fields-in-Tuple : goal.write_row-returns-in_ok-write_fields-in-Tuple
write_row-returns-in_ok-write_fields-in-Tuple t c =
    tuple_wrote c.args.schema.now _ _ _ c.args.out.now.items c.push_bytes-in-Tuple-2.new.out.items c.push_bytes-in-Tuple-2.result c.in-Tuple.is (fields_row c.args.schema.now c.args.offset (slices_in c.args.store.now) c.args.index c.in-Tuple.is c.requires.in_range)
    (between_wrote c.args.out.now.items c.push_bytes-in-Tuple.new.out.items c.write_fields.new.out.items c.push_bytes-in-Tuple-2.new.out.items _ _ _ _ c.push_bytes-in-Tuple-2.result (rw c.before_fields-in-Tuple.ensures at c.in_ok-push_bytes-in-Tuple.ensures) (rw (c.deref-in-Tuple.ensures, c.deref-in-Tuple-2.ensures) at c.in_ok-write_fields-in-Tuple.ensures) (rw c.after_fields-in-Tuple.ensures at c.push_bytes-in-Tuple-2.ensures))

pub write_row-write_fields-requires-in-Beside : goal.write_row-write_fields-requires-in-Beside
write_row-write_fields-requires-in-Beside t c =
    let r = later_in c.args.schema.now c.args.offset (slices_in c.args.store.now) c.args.index c.in-Beside.is c.requires.in_range in (
      rw c.decreases at (later_falls c.args.schema.now c.deref-in-Beside.result.now c.deref-in-Beside-2.result.now c.in-Beside.is c.deref-in-Beside.ensures c.deref-in-Beside-2.ensures),
      (
        rw c.deref-in-Beside.ensures (field_counted c.args.schema.now c.in-Beside.is c.requires.counted),
        (
          rw c.deref-in-Beside-2.ensures (later_counted c.args.schema.now c.in-Beside.is c.requires.counted),
          (
            rw c.deref-in-Beside.ensures (field_fit c.args.schema.now c.args.offset (slices_in c.args.store.now) c.in-Beside.is c.requires.fits),
            (
              rw (c.deref-in-Beside.ensures, c.deref-in-Beside-2.ensures) (later_fit c.args.schema.now c.args.offset (slices_in c.args.store.now) c.in-Beside.is c.requires.fits),
              (
                rw c.deref-in-Beside.ensures r.0,
                rw (c.deref-in-Beside.ensures, c.deref-in-Beside-2.ensures) r.1,
              ),
            ),
          ),
        ),
      ),
    )

pub write_row-returns-in-Beside : goal.write_row-returns-in-Beside
write_row-returns-in-Beside t c = beside_wrote c.args.schema.now _ _ _ c.args.out.now.items c.write_fields-in-Beside.new.out.items c.write_fields-in-Beside.result c.in-Beside.is (later_row c.args.schema.now c.args.offset (slices_in c.args.store.now) c.args.index c.in-Beside.is c.requires.in_range) (rw (c.deref-in-Beside.ensures, c.deref-in-Beside-2.ensures) at c.write_fields-in-Beside.ensures)

pub write_row-returns-in_ok-push_quoted-in-Field : goal.write_row-returns-in_ok-push_quoted-in-Field
write_row-returns-in_ok-push_quoted-in-Field t c = field_wrote c.args.schema.now (stored_row c.args.schema.now (slices_in c.args.store.now) c.args.offset c.args.index) _ c.args.out.now.items c.push_quoted.new.out.items c.write_between-in-Field.new.out.items c.write_between-in-Field.result c.in-Field.is (part_row c.args.schema.now c.args.offset (slices_in c.args.store.now) c.args.index c.in-Field.is) (rw c.as_slice.ensures.value at c.in_ok-push_quoted-in-Field.ensures) (rw c.deref-in-Field.ensures at c.write_between-in-Field.ensures)

pub write_row-range_at-lower-requires-in-Array-clause-in_range : goal.write_row-range_at-lower-requires-in-Array-clause-in_range
write_row-range_at-lower-requires-in-Array-clause-in_range t c = array_bound c.args.schema.now c.args.offset (slices_in c.args.store.now) c.args.index c.in-Array.is c.requires.in_range

pub write_row-overflow_sub-upper : goal.write_row-overflow_sub-upper
write_row-overflow_sub-upper t c = (array_in c.args.schema.now c.args.offset (slices_in c.args.store.now) c.args.index c.range_at-lower-in-Array.result.0 c.range_at-lower-in-Array.result.1 c.in-Array.is c.requires.fits c.range_at-lower-in-Array.ensures.lower c.range_at-lower-in-Array.ensures.upper).0

pub write_row-returns-then-upper-lower : goal.write_row-returns-then-upper-lower
write_row-returns-then-upper-lower t c =
    let r = array_in c.args.schema.now c.args.offset (slices_in c.args.store.now) c.args.index c.range_at-lower-in-Array.result.0 c.range_at-lower-in-Array.result.1 c.in-Array.is c.requires.fits c.range_at-lower-in-Array.ensures.lower c.range_at-lower-in-Array.ensures.upper in
    array_refused c.args.schema.now _ _ c.args.out.now.items c.in-Array.is (array_row c.args.schema.now c.args.offset (slices_in c.args.store.now) c.args.index c.range_at-lower-in-Array.result.0 c.range_at-lower-in-Array.result.1 c.in-Array.is c.range_at-lower-in-Array.ensures.lower c.range_at-lower-in-Array.ensures.upper) (λ z. c.if-upper-lower.true (sym (items_length _ c.range_at-lower-in-Array.result.0 c.range_at-lower-in-Array.result.1 r.0 r.1) ∙ z))

pub write_row-write_items-requires-in-Array : goal.write_row-write_items-requires-in-Array
write_row-write_items-requires-in-Array t c =
    let r = array_in c.args.schema.now c.args.offset (slices_in c.args.store.now) c.args.index c.range_at-lower-in-Array.result.0 c.range_at-lower-in-Array.result.1 c.in-Array.is c.requires.fits c.range_at-lower-in-Array.ensures.lower c.range_at-lower-in-Array.ensures.upper in (
      rw c.decreases at (array_falls c.args.schema.now c.deref-in-Array.result.now c.in-Array.is c.deref-in-Array.ensures),
      (
        array_counted c.args.schema.now c.deref-in-Array.result.now c.in-Array.is c.deref-in-Array.ensures c.requires.counted,
        (
          rw c.deref-in-Array.ensures (array_fit c.args.schema.now c.args.offset (slices_in c.args.store.now) c.in-Array.is c.requires.fits),
          (
            r.0,
            rw c.deref-in-Array.ensures r.1,
          ),
        ),
      ),
    )

pub write_row-returns-in_err-write_items-in-Array : goal.write_row-returns-in_err-write_items-in-Array
write_row-returns-in_err-write_items-in-Array t c =
    let row = stored_row c.args.schema.now (slices_in c.args.store.now) c.args.offset c.args.index in
    let r = array_in c.args.schema.now c.args.offset (slices_in c.args.store.now) c.args.index c.range_at-lower-in-Array.result.0 c.range_at-lower-in-Array.result.1 c.in-Array.is c.requires.fits c.range_at-lower-in-Array.ensures.lower c.range_at-lower-in-Array.ensures.upper in
    row_passed c.args.out.now.items c.write_items-in-Array.new.out.items (json_of c.args.schema.now row) (flaws_of c.args.schema.now row) c.in_err-write_items-in-Array.field-0.0 c.from_residual-in_err-write_items-in-Array.result c.from_residual-in_err-write_items-in-Array.ensures.1
    (array_wrote c.args.schema.now row _ c.args.out.now.items c.write_items-in-Array.new.out.items (Err c.in_err-write_items-in-Array.field-0.0) c.in-Array.is (array_row c.args.schema.now c.args.offset (slices_in c.args.store.now) c.args.index c.range_at-lower-in-Array.result.0 c.range_at-lower-in-Array.result.1 c.in-Array.is c.range_at-lower-in-Array.ensures.lower c.range_at-lower-in-Array.ensures.upper) (items_length _ c.range_at-lower-in-Array.result.0 c.range_at-lower-in-Array.result.1 r.0 r.1 ∙ c.if-upper-lower.false)
    (between_failed c.args.out.now.items c.push_bytes-in-Array.new.out.items c.write_items-in-Array.new.out.items (codes "[") [] (codes "]") _ c.in_err-write_items-in-Array.field-0.0 c.in_ok-push_bytes-in-Array.ensures (rw c.deref-in-Array.ensures at c.in_err-write_items-in-Array.ensures)))

pub write_row-returns-in_ok-write_items-in-Array : goal.write_row-returns-in_ok-write_items-in-Array
write_row-returns-in_ok-write_items-in-Array t c =
    let r = array_in c.args.schema.now c.args.offset (slices_in c.args.store.now) c.args.index c.range_at-lower-in-Array.result.0 c.range_at-lower-in-Array.result.1 c.in-Array.is c.requires.fits c.range_at-lower-in-Array.ensures.lower c.range_at-lower-in-Array.ensures.upper in
    array_wrote c.args.schema.now _ _ c.args.out.now.items c.push_bytes-in-Array-2.new.out.items c.push_bytes-in-Array-2.result c.in-Array.is (array_row c.args.schema.now c.args.offset (slices_in c.args.store.now) c.args.index c.range_at-lower-in-Array.result.0 c.range_at-lower-in-Array.result.1 c.in-Array.is c.range_at-lower-in-Array.ensures.lower c.range_at-lower-in-Array.ensures.upper) (items_length _ c.range_at-lower-in-Array.result.0 c.range_at-lower-in-Array.result.1 r.0 r.1 ∙ c.if-upper-lower.false)
    (between_wrote c.args.out.now.items c.push_bytes-in-Array.new.out.items c.write_items-in-Array.new.out.items c.push_bytes-in-Array-2.new.out.items (codes "[") _ (codes "]") _ c.push_bytes-in-Array-2.result c.in_ok-push_bytes-in-Array.ensures (rw c.deref-in-Array.ensures at c.in_ok-write_items-in-Array.ensures) c.push_bytes-in-Array-2.ensures)

pub write_row-bit_at-is_value-requires-clause-fits : goal.write_row-bit_at-is_value-requires-clause-fits
write_row-bit_at-is_value-requires-clause-fits t c = repeat_bits_fit c.args.schema.now c.args.offset (slices_in c.args.store.now) c.in-Repeated.is c.requires.fits

pub write_row-bit_at-is_value-requires-clause-in_range : goal.write_row-bit_at-is_value-requires-clause-in_range
write_row-bit_at-is_value-requires-clause-in_range t c = repeat_bit c.args.schema.now c.args.offset (slices_in c.args.store.now) c.args.index c.in-Repeated.is c.requires.in_range

pub write_row-write_row-requires-then-is_value : goal.write_row-write_row-requires-then-is_value
write_row-write_row-requires-then-is_value t c =
    let v = new_value c.args.schema.now c.args.offset (slices_in c.args.store.now) c.args.index _ c.in-Repeated.is c.requires.fits c.requires.in_range (rw c.if-is_value.true at c.bit_at-is_value.ensures.bit) c.bit_at-is_value.ensures.rank in (
      rw c.decreases at (repeat_falls c.args.schema.now c.deref-then-is_value.result.now c.in-Repeated.is c.deref-then-is_value.ensures),
      (
        repeat_counted c.args.schema.now c.deref-then-is_value.result.now c.in-Repeated.is c.deref-then-is_value.ensures c.requires.counted,
        (
          rw c.deref-then-is_value.ensures (repeat_fit c.args.schema.now c.args.offset (slices_in c.args.store.now) c.in-Repeated.is c.requires.fits),
          rw c.deref-then-is_value.ensures v.0,
        ),
      ),
    )

pub write_row-returns-then-is_value : goal.write_row-returns-then-is_value
write_row-returns-then-is_value t c =
    let v = new_value c.args.schema.now c.args.offset (slices_in c.args.store.now) c.args.index _ c.in-Repeated.is c.requires.fits c.requires.in_range (rw c.if-is_value.true at c.bit_at-is_value.ensures.bit) c.bit_at-is_value.ensures.rank in
    repeat_wrote c.args.schema.now _ _ c.args.out.now.items c.write_row-then-is_value.new.out.items c.write_row-then-is_value.result c.in-Repeated.is v.1 (rw c.deref-then-is_value.ensures at c.write_row-then-is_value.ensures)

pub write_row-overflow_sub-before : goal.write_row-overflow_sub-before
write_row-overflow_sub-before t c = value_before c.args.schema.now c.args.offset (slices_in c.args.store.now) c.args.index _ c.in-Repeated.is c.requires.fits c.requires.in_range (rw c.if-is_value.false at c.bit_at-is_value.ensures.bit) c.bit_at-is_value.ensures.rank

pub write_row-write_row-requires-else-is_value : goal.write_row-write_row-requires-else-is_value
write_row-write_row-requires-else-is_value t c =
    let v = value_again c.args.schema.now c.args.offset (slices_in c.args.store.now) c.args.index _ c.in-Repeated.is c.requires.fits c.requires.in_range (rw c.if-is_value.false at c.bit_at-is_value.ensures.bit) c.bit_at-is_value.ensures.rank in (
      rw c.decreases at (repeat_falls c.args.schema.now c.deref-else-is_value.result.now c.in-Repeated.is c.deref-else-is_value.ensures),
      (
        repeat_counted c.args.schema.now c.deref-else-is_value.result.now c.in-Repeated.is c.deref-else-is_value.ensures c.requires.counted,
        (
          rw c.deref-else-is_value.ensures (repeat_fit c.args.schema.now c.args.offset (slices_in c.args.store.now) c.in-Repeated.is c.requires.fits),
          rw c.deref-else-is_value.ensures v.0,
        ),
      ),
    )

pub write_row-returns-else-is_value : goal.write_row-returns-else-is_value
write_row-returns-else-is_value t c =
    let v = value_again c.args.schema.now c.args.offset (slices_in c.args.store.now) c.args.index _ c.in-Repeated.is c.requires.fits c.requires.in_range (rw c.if-is_value.false at c.bit_at-is_value.ensures.bit) c.bit_at-is_value.ensures.rank in
    repeat_wrote c.args.schema.now _ _ c.args.out.now.items c.write_row-else-is_value.new.out.items c.write_row-else-is_value.result c.in-Repeated.is v.1 (rw c.deref-else-is_value.ensures at c.write_row-else-is_value.ensures)

pub write_row-bit_at-is_new-requires-clause-fits : goal.write_row-bit_at-is_new-requires-clause-fits
write_row-bit_at-is_new-requires-clause-fits t c = recalled_bits_fit c.args.schema.now c.args.offset (slices_in c.args.store.now) c.in-Recalled.is c.requires.fits

pub write_row-bit_at-is_new-requires-clause-in_range : goal.write_row-bit_at-is_new-requires-clause-in_range
write_row-bit_at-is_new-requires-clause-in_range t c = lookback_bit c.args.schema.now c.args.offset (slices_in c.args.store.now) c.args.index c.in-Recalled.is c.requires.in_range

pub write_row-write_row-requires-then-is_new : goal.write_row-write_row-requires-then-is_new
write_row-write_row-requires-then-is_new t c =
    let v = first_value c.args.schema.now c.args.offset (slices_in c.args.store.now) c.args.index _ c.in-Recalled.is c.requires.fits (rw c.if-is_new.true at c.bit_at-is_new.ensures.bit) c.bit_at-is_new.ensures.rank in (
      rw c.decreases at (recalled_falls c.args.schema.now c.deref-then-is_new.result.now c.in-Recalled.is c.deref-then-is_new.ensures),
      (
        recalled_counted c.args.schema.now c.deref-then-is_new.result.now c.in-Recalled.is c.deref-then-is_new.ensures c.requires.counted,
        (
          rw c.deref-then-is_new.ensures (recalled_fit c.args.schema.now c.args.offset (slices_in c.args.store.now) c.in-Recalled.is c.requires.fits),
          rw c.deref-then-is_new.ensures v.0,
        ),
      ),
    )

pub write_row-returns-then-is_new : goal.write_row-returns-then-is_new
write_row-returns-then-is_new t c =
    let v = first_value c.args.schema.now c.args.offset (slices_in c.args.store.now) c.args.index _ c.in-Recalled.is c.requires.fits (rw c.if-is_new.true at c.bit_at-is_new.ensures.bit) c.bit_at-is_new.ensures.rank in
    recalled_wrote c.args.schema.now _ _ c.args.out.now.items c.write_row-then-is_new.new.out.items c.write_row-then-is_new.result c.in-Recalled.is v.1 (rw c.deref-then-is_new.ensures at c.write_row-then-is_new.ensures)

pub write_row-overflow_sub-index-else-is_new : goal.write_row-overflow_sub-index-else-is_new
write_row-overflow_sub-index-else-is_new t c = values_before c.args.schema.now c.args.offset (slices_in c.args.store.now) c.args.index _ c.in-Recalled.is c.bit_at-is_new.ensures.rank

pub write_row-write_row-requires-else-is_new : goal.write_row-write_row-requires-else-is_new
write_row-write_row-requires-else-is_new t c =
    let v = looks_back c.args.schema.now c.args.offset (slices_in c.args.store.now) c.args.index _ _ c.in-Recalled.is c.requires.fits c.requires.in_range (rw c.if-is_new.false at c.bit_at-is_new.ensures.bit) c.bit_at-is_new.ensures.rank (rw (c.slice_count_of-else-is_new.ensures, c.deref-else-is_new.ensures) at c.distance_at-back.ensures) in (
      rw c.decreases at (recalled_falls c.args.schema.now c.deref-else-is_new-2.result.now c.in-Recalled.is c.deref-else-is_new-2.ensures),
      (
        recalled_counted c.args.schema.now c.deref-else-is_new-2.result.now c.in-Recalled.is c.deref-else-is_new-2.ensures c.requires.counted,
        (
          rw c.deref-else-is_new-2.ensures (recalled_fit c.args.schema.now c.args.offset (slices_in c.args.store.now) c.in-Recalled.is c.requires.fits),
          rw c.deref-else-is_new-2.ensures v.within,
        ),
      ),
    )

pub write_row-returns-else-is_new : goal.write_row-returns-else-is_new
write_row-returns-else-is_new t c =
    let v = looks_back c.args.schema.now c.args.offset (slices_in c.args.store.now) c.args.index _ _ c.in-Recalled.is c.requires.fits c.requires.in_range (rw c.if-is_new.false at c.bit_at-is_new.ensures.bit) c.bit_at-is_new.ensures.rank (rw (c.slice_count_of-else-is_new.ensures, c.deref-else-is_new.ensures) at c.distance_at-back.ensures) in
    recalled_wrote c.args.schema.now _ _ c.args.out.now.items c.write_row-else-is_new.new.out.items c.write_row-else-is_new.result c.in-Recalled.is v.row (rw c.deref-else-is_new-2.ensures at c.write_row-else-is_new.ensures)

pub write_row-slice_count_of-requires-in-Sum : goal.write_row-slice_count_of-requires-in-Sum
write_row-slice_count_of-requires-in-Sum t c = rw c.deref-in-Sum.ensures (cases_counted c.args.schema.now c.in-Sum.is c.requires.counted)

pub write_row-overflow_add-offset-in-Sum : goal.write_row-overflow_add-offset-in-Sum
write_row-overflow_add-offset-in-Sum t c =
    let fits = cases_fit c.args.schema.now c.args.offset (slices_in c.args.store.now) c.in-Sum.is c.requires.fits in
    let count = rw c.deref-in-Sum.ensures at c.slice_count_of-in-Sum.ensures in
    search rules

pub write_row-variant_at-variant-requires-clause-fits : goal.write_row-variant_at-variant-requires-clause-fits
write_row-variant_at-variant-requires-clause-fits t c = rw (c.slice_count_of-in-Sum.ensures, c.deref-in-Sum.ensures) (indexes_fit c.args.schema.now c.args.offset (slices_in c.args.store.now) c.in-Sum.is c.requires.fits)

pub write_row-variant_at-variant-requires-clause-in_range : goal.write_row-variant_at-variant-requires-clause-in_range
write_row-variant_at-variant-requires-clause-in_range t c = rw (c.slice_count_of-in-Sum.ensures, c.deref-in-Sum.ensures) (form_in c.args.schema.now c.args.offset (slices_in c.args.store.now) c.args.index c.in-Sum.is c.requires.in_range)

pub write_row-write_case-requires : goal.write_row-write_case-requires
write_row-write_case-requires t c =
    let place = rw c.deref-in-Sum.ensures at c.slice_count_of-in-Sum.ensures in
    let r = case_in c.args.schema.now c.args.offset (c.args.offset + c.slice_count_of-in-Sum.result) (slices_in c.args.store.now) c.args.index c.variant_at-variant.result.0 c.variant_at-variant.result.1 c.in-Sum.is (ap (λ n. c.args.offset + n) place) c.requires.fits c.variant_at-variant.ensures.variant c.variant_at-variant.ensures.earlier in (
      rw c.decreases at (cases_measure c.args.schema.now c.deref-in-Sum-2.result.now c.in-Sum.is c.deref-in-Sum-2.ensures),
      (
        rw c.deref-in-Sum-2.ensures (cases_counted c.args.schema.now c.in-Sum.is c.requires.counted),
        (
          rw c.deref-in-Sum-2.ensures (cases_fit c.args.schema.now c.args.offset (slices_in c.args.store.now) c.in-Sum.is c.requires.fits),
          (
            rw c.deref-in-Sum-2.ensures r.0,
            rw c.deref-in-Sum-2.ensures r.1,
          ),
        ),
      ),
    )

pub write_row-returns-in-Sum : goal.write_row-returns-in-Sum
write_row-returns-in-Sum t c =
    let place = rw c.deref-in-Sum.ensures at c.slice_count_of-in-Sum.ensures in
    sum_wrote c.args.schema.now _ _ c.variant_at-variant.result.0 c.args.out.now.items c.write_case.new.out.items c.write_case.result c.in-Sum.is (case_row c.args.schema.now c.args.offset (c.args.offset + c.slice_count_of-in-Sum.result) (slices_in c.args.store.now) c.args.index c.variant_at-variant.result.0 c.variant_at-variant.result.1 c.in-Sum.is (ap (λ n. c.args.offset + n) place) c.requires.fits c.variant_at-variant.ensures.variant c.variant_at-variant.ensures.earlier) (rw c.deref-in-Sum-2.ensures at c.write_case.ensures)

pub write_row-returns-in-Named : goal.write_row-returns-in-Named
write_row-returns-in-Named t c = named_wrote c.args.schema.now (stored_row c.args.schema.now (slices_in c.args.store.now) c.args.offset c.args.index) c.args.out.now.items c.push_quoted-in-Named.new.out.items c.push_quoted-in-Named.result c.in-Named.is (rw c.as_slice-in-Named.ensures.value at c.push_quoted-in-Named.ensures)

pub write_row-returns-in_ok-write_value-in-Case : goal.write_row-returns-in_ok-write_value-in-Case
write_row-returns-in_ok-write_value-in-Case t c = case_wrote c.args.schema.now (stored_row c.args.schema.now (slices_in c.args.store.now) c.args.offset c.args.index) _ c.args.out.now.items c.push_bytes-in-Case.new.out.items c.write_value.new.out.items c.push_bytes-in-Case-2.new.out.items c.push_bytes-in-Case-2.result c.in-Case.is (value_row c.args.schema.now c.args.offset (slices_in c.args.store.now) c.args.index c.in-Case.is) c.in_ok-push_bytes-in-Case.ensures (rw (c.deref-in-Case.ensures, c.as_slice-in-Case.ensures.value) at c.in_ok-write_value-in-Case.ensures) c.push_bytes-in-Case-2.ensures

pub write_case-write_row-requires : goal.write_case-write_row-requires
write_case-write_row-requires t c =
    let zero : c.args.variant ≡ 0 = search rules in (
      rw c.decreases at (first_measure c.args.cases.now c.deref.result.now c.in-Beside.is c.deref.ensures),
      (
        rw c.deref.ensures (field_counted c.args.cases.now c.in-Beside.is c.requires.counted),
        (
          rw c.deref.ensures (field_fit c.args.cases.now c.args.offset (slices_in c.args.store.now) c.in-Beside.is c.requires.fits),
          rw c.deref.ensures (first_in c.args.cases.now c.args.offset (slices_in c.args.store.now) c.args.variant c.args.index c.in-Beside.is zero c.requires.in_range),
        ),
      ),
    )

pub write_case-write_case-requires : goal.write_case-write_case-requires
write_case-write_case-requires t c =
    let more : c.args.variant ≡ 0 → ⊥ = search rules in (
      rw c.decreases at (later_measure c.args.cases.now c.deref-else-variant-eq0-2.result.now c.in-Beside.is c.deref-else-variant-eq0-2.ensures),
      (
        rw c.deref-else-variant-eq0-2.ensures (later_counted c.args.cases.now c.in-Beside.is c.requires.counted),
        (
          rw (c.slice_count_of.ensures, c.deref-else-variant-eq0.ensures, c.deref-else-variant-eq0-2.ensures) (later_fit c.args.cases.now c.args.offset (slices_in c.args.store.now) c.in-Beside.is c.requires.fits),
          (
            rw c.deref-else-variant-eq0-2.ensures (later_known c.args.cases.now c.args.variant c.in-Beside.is more c.requires.known),
            rw (c.slice_count_of.ensures, c.deref-else-variant-eq0.ensures, c.deref-else-variant-eq0-2.ensures) (later_value_in c.args.cases.now c.args.offset (slices_in c.args.store.now) c.args.variant c.args.index c.in-Beside.is more c.requires.in_range),
          ),
        ),
      ),
    )

pub write_row-distance_at-back-requires-clause-fits : goal.write_row-distance_at-back-requires-clause-fits
write_row-distance_at-back-requires-clause-fits t c = rw (c.slice_count_of-else-is_new.ensures, c.deref-else-is_new.ensures) (distances_fit c.args.schema.now c.args.offset (slices_in c.args.store.now) c.in-Recalled.is c.requires.fits)

pub write_row-distance_at-back-requires-clause-in_range : goal.write_row-distance_at-back-requires-clause-in_range
write_row-distance_at-back-requires-clause-in_range t c = rw (c.slice_count_of-else-is_new.ensures, c.deref-else-is_new.ensures) (distance_in c.args.schema.now c.args.offset (slices_in c.args.store.now) c.args.index _ c.in-Recalled.is c.requires.fits c.requires.in_range (rw c.if-is_new.false at c.bit_at-is_new.ensures.bit) c.bit_at-is_new.ensures.rank)

pub write_row-overflow_sub-before-else-is_new : goal.write_row-overflow_sub-before-else-is_new
write_row-overflow_sub-before-else-is_new t c =
    let v = looks_back c.args.schema.now c.args.offset (slices_in c.args.store.now) c.args.index _ _ c.in-Recalled.is c.requires.fits c.requires.in_range (rw c.if-is_new.false at c.bit_at-is_new.ensures.bit) c.bit_at-is_new.ensures.rank (rw (c.slice_count_of-else-is_new.ensures, c.deref-else-is_new.ensures) at c.distance_at-back.ensures) in
    omega (arith, v.reach)

pub write_row-overflow_sub-before-else-is_new-2 : goal.write_row-overflow_sub-before-else-is_new-2
write_row-overflow_sub-before-else-is_new-2 t c =
    let v = looks_back c.args.schema.now c.args.offset (slices_in c.args.store.now) c.args.index _ _ c.in-Recalled.is c.requires.fits c.requires.in_range (rw c.if-is_new.false at c.bit_at-is_new.ensures.bit) c.bit_at-is_new.ensures.rank (rw (c.slice_count_of-else-is_new.ensures, c.deref-else-is_new.ensures) at c.distance_at-back.ensures) in
    omega (arith, v.reach)
