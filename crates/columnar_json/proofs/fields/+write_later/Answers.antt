use Rattle.std.proofs.Common.{[]}
use Rattle.std.specs.Prelude.{Err}
use Rattle.columnar_core.specs.Store.{slices_in}
use Rattle.columnar_schema.specs.CountLaws.{later_counted}
use Rattle.columnar_schema.specs.TypeLaws.{field_fit, later_fall, later_fit}
use Rattle.columnar_json.specs.PartLaws.{later_in, later_row}
use Rattle.columnar_json.specs.RecordLaws.{comma_between, later_wrote}
use Rattle.columnar_json.specs.Stored.{stored_row}
use Rattle.columnar_json.specs.WrittenLaws.{row_failed, row_passed}
use Rattle.columnar_json.proofs.fields.+write_later.Goals as goal

pub write_field-requires-clause-fits : goal.write_field-requires-clause-fits
write_field-requires-clause-fits t c = rw c.deref.ensures (field_fit c.args.schema.now c.args.offset (slices_in c.args.store.now) c.in-Beside.is c.requires.fits)

pub write_field-requires-clause-in_range : goal.write_field-requires-clause-in_range
write_field-requires-clause-in_range t c =
    let r = later_in c.args.schema.now c.args.offset (slices_in c.args.store.now) c.args.index c.in-Beside.is c.requires.in_range in
    rw c.deref.ensures r.0

pub returns-in_err-write_field-in-Beside : goal.returns-in_err-write_field-in-Beside
returns-in_err-write_field-in-Beside t c =
    let e = c.in_err-write_field-in-Beside.field-0.0 in
    row_passed c.args.out.now.items c.write_field.new.out.items _ _ e c.from_residual.result c.from_residual.ensures.1
    (later_wrote c.args.schema.now (stored_row c.args.schema.now (slices_in c.args.store.now) c.args.offset c.args.index) _ _ c.args.out.now.items c.write_field.new.out.items (Err e) c.in-Beside.is (later_row c.args.schema.now c.args.offset (slices_in c.args.store.now) c.args.index c.in-Beside.is c.requires.in_range)
    (row_failed c.args.out.now.items c.write_field.new.out.items [] [] _ _ e (rw c.deref.ensures at c.in_err-write_field-in-Beside.ensures)))

pub write_later-requires : goal.write_later-requires
write_later-requires t c =
    let r = later_in c.args.schema.now c.args.offset (slices_in c.args.store.now) c.args.index c.in-Beside.is c.requires.in_range in (
      rw c.decreases at (later_fall c.args.schema.now c.deref-in-Beside-2.result.now c.in-Beside.is c.deref-in-Beside-2.ensures),
      (
        rw c.deref-in-Beside-2.ensures (later_counted c.args.schema.now c.in-Beside.is c.requires.counted),
        (
          rw (c.slice_count_of.ensures, c.deref-in-Beside.ensures, c.deref-in-Beside-2.ensures) (later_fit c.args.schema.now c.args.offset (slices_in c.args.store.now) c.in-Beside.is c.requires.fits),
          rw (c.slice_count_of.ensures, c.deref-in-Beside.ensures, c.deref-in-Beside-2.ensures) r.1,
        ),
      ),
    )

pub returns-in_ok-push_bytes-in-Beside : goal.returns-in_ok-push_bytes-in-Beside
returns-in_ok-push_bytes-in-Beside t c =
    later_wrote c.args.schema.now (stored_row c.args.schema.now (slices_in c.args.store.now) c.args.offset c.args.index) _ _ c.args.out.now.items c.write_later.new.out.items c.write_later.result c.in-Beside.is (later_row c.args.schema.now c.args.offset (slices_in c.args.store.now) c.args.index c.in-Beside.is c.requires.in_range)
    (comma_between c.args.out.now.items c.write_field.new.out.items c.push_bytes.new.out.items c.write_later.new.out.items _ _ _ _ c.write_later.result (rw c.deref.ensures at c.in_ok-write_field-in-Beside.ensures) c.in_ok-push_bytes-in-Beside.ensures (rw (c.slice_count_of.ensures, c.deref-in-Beside.ensures, c.deref-in-Beside-2.ensures) at c.write_later.ensures))
