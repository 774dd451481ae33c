use Rattle.std.proofs.Common.{◌≡◌, ◌+◌, ap, arith, rules}
use Rattle.columnar_core.specs.Store.{slices_in}
use Rattle.columnar_schema.specs.BankLaws.{cases_counted, cases_fit, indexes_fit}
use Rattle.columnar_schema.specs.CountLaws.{field_counted, later_counted}
use Rattle.columnar_schema.specs.TypeLaws.{field_fit, later_fit}
use Rattle.columnar_json.specs.CaseTextLaws.{case_in, case_row, cases_measure, first_in, first_measure, form_in, later_known, later_measure, later_value_in}
use Rattle.columnar_json.specs.CsvLaws.{bare_value, name_value, no_value, part_value, recalled_value, repeat_value, some_value, sum_value}
use Rattle.columnar_json.specs.LookbackRowLaws.{distance_in, distances_fit, first_value, lookback_bit, looks_back, recalled_bits_fit, recalled_counted, recalled_falls, recalled_fit, values_before}
use Rattle.columnar_json.specs.PartLaws.{bit_in, none_row, only_row, part_row, some_counted, some_falls, some_in, some_row, somes_fit}
use Rattle.columnar_json.specs.RepeatRowLaws.{new_value, repeat_bit, repeat_bits_fit, repeat_counted, repeat_falls, repeat_fit, value_again, value_before}
use Rattle.columnar_json.specs.Stored.{stored_row}
use Rattle.columnar_json.proofs.value.+values.Goals as goal

pub write_value-bit_at-present-requires-clause-in_range : goal.write_value-bit_at-present-requires-clause-in_range
write_value-bit_at-present-requires-clause-in_range t c = bit_in c.args.schema.now c.args.offset (slices_in c.args.store.now) c.args.index c.in-Optional.is c.requires.in_range

pub write_value-write_value-requires : goal.write_value-write_value-requires
write_value-write_value-requires t c = (
  rw c.decreases at (some_falls c.args.schema.now c.deref.result.now c.in-Optional.is c.deref.ensures),
  (
    some_counted c.args.schema.now c.deref.result.now c.in-Optional.is c.deref.ensures c.requires.counted,
    (
      rw c.deref.ensures (somes_fit c.args.schema.now c.args.offset (slices_in c.args.store.now) c.in-Optional.is c.requires.fits),
      rw (c.deref.ensures, c.bit_at-present.ensures.rank) (some_in c.args.schema.now c.args.offset (slices_in c.args.store.now) c.args.index c.in-Optional.is c.requires.fits (rw c.if-present.true at c.bit_at-present.ensures.bit)),
    ),
  ),
)

pub write_value-returns-then-present : goal.write_value-returns-then-present
write_value-returns-then-present t c = some_value c.args.schema.now _ _ c.args.out.now.items c.write_value.new.out.items c.write_value.result c.in-Optional.is (some_row c.args.schema.now c.args.offset (slices_in c.args.store.now) c.args.index c.in-Optional.is c.requires.fits (rw c.if-present.true at c.bit_at-present.ensures.bit)) (rw (c.deref.ensures, c.bit_at-present.ensures.rank) at c.write_value.ensures)

pub write_value-returns-else-present : goal.write_value-returns-else-present
write_value-returns-else-present t c = no_value c.args.schema.now _ c.args.out.now.items c.push_bytes.new.out.items c.push_bytes.result c.in-Optional.is (none_row c.args.schema.now c.args.offset (slices_in c.args.store.now) c.args.index c.in-Optional.is (rw c.if-present.false at c.bit_at-present.ensures.bit)) c.push_bytes.ensures

pub write_value-bit_at-is_value-requires-clause-fits : goal.write_value-bit_at-is_value-requires-clause-fits
write_value-bit_at-is_value-requires-clause-fits t c = repeat_bits_fit c.args.schema.now c.args.offset (slices_in c.args.store.now) c.in-Repeated.is c.requires.fits

pub write_value-bit_at-is_value-requires-clause-in_range : goal.write_value-bit_at-is_value-requires-clause-in_range
write_value-bit_at-is_value-requires-clause-in_range t c = repeat_bit c.args.schema.now c.args.offset (slices_in c.args.store.now) c.args.index c.in-Repeated.is c.requires.in_range

pub write_value-write_value-requires-then-is_value : goal.write_value-write_value-requires-then-is_value
write_value-write_value-requires-then-is_value t c =
    let v = new_value c.args.schema.now c.args.offset (slices_in c.args.store.now) c.args.index _ c.in-Repeated.is c.requires.fits c.requires.in_range (rw c.if-is_value.true at c.bit_at-is_value.ensures.bit) c.bit_at-is_value.ensures.rank in (
      rw c.decreases at (repeat_falls c.args.schema.now c.deref-then-is_value.result.now c.in-Repeated.is c.deref-then-is_value.ensures),
      (
        repeat_counted c.args.schema.now c.deref-then-is_value.result.now c.in-Repeated.is c.deref-then-is_value.ensures c.requires.counted,
        (
          rw c.deref-then-is_value.ensures (repeat_fit c.args.schema.now c.args.offset (slices_in c.args.store.now) c.in-Repeated.is c.requires.fits),
          rw c.deref-then-is_value.ensures v.0,
        ),
      ),
    )

pub write_value-returns-then-is_value : goal.write_value-returns-then-is_value
write_value-returns-then-is_value t c =
    let v = new_value c.args.schema.now c.args.offset (slices_in c.args.store.now) c.args.index _ c.in-Repeated.is c.requires.fits c.requires.in_range (rw c.if-is_value.true at c.bit_at-is_value.ensures.bit) c.bit_at-is_value.ensures.rank in
    repeat_value c.args.schema.now _ _ c.args.out.now.items c.write_value-then-is_value.new.out.items c.write_value-then-is_value.result c.in-Repeated.is v.1 (rw c.deref-then-is_value.ensures at c.write_value-then-is_value.ensures)

pub write_value-overflow_sub-before : goal.write_value-overflow_sub-before
write_value-overflow_sub-before t c = value_before c.args.schema.now c.args.offset (slices_in c.args.store.now) c.args.index _ c.in-Repeated.is c.requires.fits c.requires.in_range (rw c.if-is_value.false at c.bit_at-is_value.ensures.bit) c.bit_at-is_value.ensures.rank

pub write_value-write_value-requires-else-is_value : goal.write_value-write_value-requires-else-is_value
write_value-write_value-requires-else-is_value t c =
    let v = value_again c.args.schema.now c.args.offset (slices_in c.args.store.now) c.args.index _ c.in-Repeated.is c.requires.fits c.requires.in_range (rw c.if-is_value.false at c.bit_at-is_value.ensures.bit) c.bit_at-is_value.ensures.rank in (
      rw c.decreases at (repeat_falls c.args.schema.now c.deref-else-is_value.result.now c.in-Repeated.is c.deref-else-is_value.ensures),
      (
        repeat_counted c.args.schema.now c.deref-else-is_value.result.now c.in-Repeated.is c.deref-else-is_value.ensures c.requires.counted,
        (
          rw c.deref-else-is_value.ensures (repeat_fit c.args.schema.now c.args.offset (slices_in c.args.store.now) c.in-Repeated.is c.requires.fits),
          rw c.deref-else-is_value.ensures v.0,
        ),
      ),
    )

pub write_value-returns-else-is_value : goal.write_value-returns-else-is_value
write_value-returns-else-is_value t c =
    let v = value_again c.args.schema.now c.args.offset (slices_in c.args.store.now) c.args.index _ c.in-Repeated.is c.requires.fits c.requires.in_range (rw c.if-is_value.false at c.bit_at-is_value.ensures.bit) c.bit_at-is_value.ensures.rank in
    repeat_value c.args.schema.now _ _ c.args.out.now.items c.write_value-else-is_value.new.out.items c.write_value-else-is_value.result c.in-Repeated.is v.1 (rw c.deref-else-is_value.ensures at c.write_value-else-is_value.ensures)

pub write_value-bit_at-is_new-requires-clause-fits : goal.write_value-bit_at-is_new-requires-clause-fits
write_value-bit_at-is_new-requires-clause-fits t c = recalled_bits_fit c.args.schema.now c.args.offset (slices_in c.args.store.now) c.in-Recalled.is c.requires.fits

pub write_value-bit_at-is_new-requires-clause-in_range : goal.write_value-bit_at-is_new-requires-clause-in_range
write_value-bit_at-is_new-requires-clause-in_range t c = lookback_bit c.args.schema.now c.args.offset (slices_in c.args.store.now) c.args.index c.in-Recalled.is c.requires.in_range

pub write_value-write_value-requires-then-is_new : goal.write_value-write_value-requires-then-is_new
write_value-write_value-requires-then-is_new t c =
    let v = first_value c.args.schema.now c.args.offset (slices_in c.args.store.now) c.args.index _ c.in-Recalled.is c.requires.fits (rw c.if-is_new.true at c.bit_at-is_new.ensures.bit) c.bit_at-is_new.ensures.rank in (
      rw c.decreases at (recalled_falls c.args.schema.now c.deref-then-is_new.result.now c.in-Recalled.is c.deref-then-is_new.ensures),
      (
        recalled_counted c.args.schema.now c.deref-then-is_new.result.now c.in-Recalled.is c.deref-then-is_new.ensures c.requires.counted,
        (
          rw c.deref-then-is_new.ensures (recalled_fit c.args.schema.now c.args.offset (slices_in c.args.store.now) c.in-Recalled.is c.requires.fits),
          rw c.deref-then-is_new.ensures v.0,
        ),
      ),
    )

pub write_value-returns-then-is_new : goal.write_value-returns-then-is_new
write_value-returns-then-is_new t c =
    let v = first_value c.args.schema.now c.args.offset (slices_in c.args.store.now) c.args.index _ c.in-Recalled.is c.requires.fits (rw c.if-is_new.true at c.bit_at-is_new.ensures.bit) c.bit_at-is_new.ensures.rank in
    recalled_value c.args.schema.now _ _ c.args.out.now.items c.write_value-then-is_new.new.out.items c.write_value-then-is_new.result c.in-Recalled.is v.1 (rw c.deref-then-is_new.ensures at c.write_value-then-is_new.ensures)

pub write_value-overflow_sub-index : goal.write_value-overflow_sub-index
write_value-overflow_sub-index t c = values_before c.args.schema.now c.args.offset (slices_in c.args.store.now) c.args.index _ c.in-Recalled.is c.bit_at-is_new.ensures.rank

pub write_value-write_value-requires-else-is_new : goal.write_value-write_value-requires-else-is_new
write_value-write_value-requires-else-is_new t c =
    let v = looks_back c.args.schema.now c.args.offset (slices_in c.args.store.now) c.args.index _ _ c.in-Recalled.is c.requires.fits c.requires.in_range (rw c.if-is_new.false at c.bit_at-is_new.ensures.bit) c.bit_at-is_new.ensures.rank (rw (c.slice_count_of.ensures, c.deref-else-is_new.ensures) at c.distance_at-back.ensures) in (
      rw c.decreases at (recalled_falls c.args.schema.now c.deref-else-is_new-2.result.now c.in-Recalled.is c.deref-else-is_new-2.ensures),
      (
        recalled_counted c.args.schema.now c.deref-else-is_new-2.result.now c.in-Recalled.is c.deref-else-is_new-2.ensures c.requires.counted,
        (
          rw c.deref-else-is_new-2.ensures (recalled_fit c.args.schema.now c.args.offset (slices_in c.args.store.now) c.in-Recalled.is c.requires.fits),
          rw c.deref-else-is_new-2.ensures v.within,
        ),
      ),
    )

pub write_value-returns-else-is_new : goal.write_value-returns-else-is_new
write_value-returns-else-is_new t c =
    let v = looks_back c.args.schema.now c.args.offset (slices_in c.args.store.now) c.args.index _ _ c.in-Recalled.is c.requires.fits c.requires.in_range (rw c.if-is_new.false at c.bit_at-is_new.ensures.bit) c.bit_at-is_new.ensures.rank (rw (c.slice_count_of.ensures, c.deref-else-is_new.ensures) at c.distance_at-back.ensures) in
    recalled_value c.args.schema.now _ _ c.args.out.now.items c.write_value-else-is_new.new.out.items c.write_value-else-is_new.result c.in-Recalled.is v.row (rw c.deref-else-is_new-2.ensures at c.write_value-else-is_new.ensures)

pub write_value-slice_count_of-requires-in-Sum : goal.write_value-slice_count_of-requires-in-Sum
write_value-slice_count_of-requires-in-Sum t c = rw c.deref-in-Sum.ensures (cases_counted c.args.schema.now c.in-Sum.is c.requires.counted)

pub write_value-overflow_add-offset-in-Sum : goal.write_value-overflow_add-offset-in-Sum
write_value-overflow_add-offset-in-Sum t c =
    let fits = cases_fit c.args.schema.now c.args.offset (slices_in c.args.store.now) c.in-Sum.is c.requires.fits in
    let count = rw c.deref-in-Sum.ensures at c.slice_count_of-in-Sum.ensures in
    search rules

pub write_value-variant_at-variant-requires-clause-fits : goal.write_value-variant_at-variant-requires-clause-fits
write_value-variant_at-variant-requires-clause-fits t c = rw (c.slice_count_of-in-Sum.ensures, c.deref-in-Sum.ensures) (indexes_fit c.args.schema.now c.args.offset (slices_in c.args.store.now) c.in-Sum.is c.requires.fits)

pub write_value-variant_at-variant-requires-clause-in_range : goal.write_value-variant_at-variant-requires-clause-in_range
write_value-variant_at-variant-requires-clause-in_range t c = rw (c.slice_count_of-in-Sum.ensures, c.deref-in-Sum.ensures) (form_in c.args.schema.now c.args.offset (slices_in c.args.store.now) c.args.index c.in-Sum.is c.requires.in_range)

pub write_value-write_case-requires : goal.write_value-write_case-requires
write_value-write_case-requires t c =
    let place = rw c.deref-in-Sum.ensures at c.slice_count_of-in-Sum.ensures in
    let r = case_in c.args.schema.now c.args.offset (c.args.offset + c.slice_count_of-in-Sum.result) (slices_in c.args.store.now) c.args.index c.variant_at-variant.result.0 c.variant_at-variant.result.1 c.in-Sum.is (ap (λ n. c.args.offset + n) place) c.requires.fits c.variant_at-variant.ensures.variant c.variant_at-variant.ensures.earlier in (
      rw c.decreases at (cases_measure c.args.schema.now c.deref-in-Sum-2.result.now c.in-Sum.is c.deref-in-Sum-2.ensures),
      (
        rw c.deref-in-Sum-2.ensures (cases_counted c.args.schema.now c.in-Sum.is c.requires.counted),
        (
          rw c.deref-in-Sum-2.ensures (cases_fit c.args.schema.now c.args.offset (slices_in c.args.store.now) c.in-Sum.is c.requires.fits),
          (
            rw c.deref-in-Sum-2.ensures r.0,
            rw c.deref-in-Sum-2.ensures r.1,
          ),
        ),
      ),
    )

pub write_value-returns-in-Sum : goal.write_value-returns-in-Sum
write_value-returns-in-Sum t c =
    let place = rw c.deref-in-Sum.ensures at c.slice_count_of-in-Sum.ensures in
    sum_value c.args.schema.now _ _ c.variant_at-variant.result.0 c.args.out.now.items c.write_case.new.out.items c.write_case.result c.in-Sum.is (case_row c.args.schema.now c.args.offset (c.args.offset + c.slice_count_of-in-Sum.result) (slices_in c.args.store.now) c.args.index c.variant_at-variant.result.0 c.variant_at-variant.result.1 c.in-Sum.is (ap (λ n. c.args.offset + n) place) c.requires.fits c.variant_at-variant.ensures.variant c.variant_at-variant.ensures.earlier) (rw c.deref-in-Sum-2.ensures at c.write_case.ensures)

pub write_value-returns-in-Named : goal.write_value-returns-in-Named
write_value-returns-in-Named t c = name_value c.args.schema.now (stored_row c.args.schema.now (slices_in c.args.store.now) c.args.offset c.args.index) c.args.out.now.items c.push_bytes-in-Named.new.out.items c.push_bytes-in-Named.result c.in-Named.is (rw c.as_slice.ensures.value at c.push_bytes-in-Named.ensures)

pub write_case-write_value-requires : goal.write_case-write_value-requires
write_case-write_value-requires t c =
    let zero : c.args.variant ≡ 0 = search rules in (
      rw c.decreases at (first_measure c.args.cases.now c.deref.result.now c.in-Beside.is c.deref.ensures),
      (
        rw c.deref.ensures (field_counted c.args.cases.now c.in-Beside.is c.requires.counted),
        (
          rw c.deref.ensures (field_fit c.args.cases.now c.args.offset (slices_in c.args.store.now) c.in-Beside.is c.requires.fits),
          rw c.deref.ensures (first_in c.args.cases.now c.args.offset (slices_in c.args.store.now) c.args.variant c.args.index c.in-Beside.is zero c.requires.in_range),
        ),
      ),
    )

pub write_case-write_case-requires : goal.write_case-write_case-requires
write_case-write_case-requires t c =
    let more : c.args.variant ≡ 0 → ⊥ = search rules in (
      rw c.decreases at (later_measure c.args.cases.now c.deref-else-variant-eq0-2.result.now c.in-Beside.is c.deref-else-variant-eq0-2.ensures),
      (
        rw c.deref-else-variant-eq0-2.ensures (later_counted c.args.cases.now c.in-Beside.is c.requires.counted),
        (
          rw (c.slice_count_of.ensures, c.deref-else-variant-eq0.ensures, c.deref-else-variant-eq0-2.ensures) (later_fit c.args.cases.now c.args.offset (slices_in c.args.store.now) c.in-Beside.is c.requires.fits),
          (
            rw c.deref-else-variant-eq0-2.ensures (later_known c.args.cases.now c.args.variant c.in-Beside.is more c.requires.known),
            rw (c.slice_count_of.ensures, c.deref-else-variant-eq0.ensures, c.deref-else-variant-eq0-2.ensures) (later_value_in c.args.cases.now c.args.offset (slices_in c.args.store.now) c.args.variant c.args.index c.in-Beside.is more c.requires.in_range),
          ),
        ),
      ),
    )

pub write_value-distance_at-back-requires-clause-fits : goal.write_value-distance_at-back-requires-clause-fits
write_value-distance_at-back-requires-clause-fits t c = rw (c.slice_count_of.ensures, c.deref-else-is_new.ensures) (distances_fit c.args.schema.now c.args.offset (slices_in c.args.store.now) c.in-Recalled.is c.requires.fits)

pub write_value-distance_at-back-requires-clause-in_range : goal.write_value-distance_at-back-requires-clause-in_range
write_value-distance_at-back-requires-clause-in_range t c = rw (c.slice_count_of.ensures, c.deref-else-is_new.ensures) (distance_in c.args.schema.now c.args.offset (slices_in c.args.store.now) c.args.index _ c.in-Recalled.is c.requires.fits c.requires.in_range (rw c.if-is_new.false at c.bit_at-is_new.ensures.bit) c.bit_at-is_new.ensures.rank)

pub write_value-overflow_sub-before-else-is_new : goal.write_value-overflow_sub-before-else-is_new
write_value-overflow_sub-before-else-is_new t c =
    let v = looks_back c.args.schema.now c.args.offset (slices_in c.args.store.now) c.args.index _ _ c.in-Recalled.is c.requires.fits c.requires.in_range (rw c.if-is_new.false at c.bit_at-is_new.ensures.bit) c.bit_at-is_new.ensures.rank (rw (c.slice_count_of.ensures, c.deref-else-is_new.ensures) at c.distance_at-back.ensures) in
    omega (arith, v.reach)

pub write_value-overflow_sub-before-else-is_new-2 : goal.write_value-overflow_sub-before-else-is_new-2
write_value-overflow_sub-before-else-is_new-2 t c =
    let v = looks_back c.args.schema.now c.args.offset (slices_in c.args.store.now) c.args.index _ _ c.in-Recalled.is c.requires.fits c.requires.in_range (rw c.if-is_new.false at c.bit_at-is_new.ensures.bit) c.bit_at-is_new.ensures.rank (rw (c.slice_count_of.ensures, c.deref-else-is_new.ensures) at c.distance_at-back.ensures) in
    omega (arith, v.reach)
