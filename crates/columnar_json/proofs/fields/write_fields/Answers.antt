use Rattle.std.proofs.Common.{[]}
use Rattle.std.specs.Prelude.{Err}
use Rattle.columnar_core.specs.Store.{slices_in}
use Rattle.columnar_schema.specs.CountLaws.{others_counted}
use Rattle.columnar_schema.specs.TypeLaws.{first_fit, others_fit}
use Rattle.columnar_json.specs.PartLaws.{fields_in, fields_row, only_row}
use Rattle.columnar_json.specs.RecordLaws.{comma_between, fields_wrote, only_wrote}
use Rattle.columnar_json.specs.Stored.{stored_row}
use Rattle.columnar_json.specs.WrittenLaws.{row_failed, row_passed}
use Rattle.columnar_json.proofs.fields.write_fields.Goals as goal

pub write_field-requires-in-Tuple-clause-fits : goal.write_field-requires-in-Tuple-clause-fits
write_field-requires-in-Tuple-clause-fits c = rw c.deref-in-Tuple.ensures (first_fit c.args.schema.now c.args.offset (slices_in c.args.store.now) c.in-Tuple.is c.requires.fits)

pub write_field-requires-in-Tuple-clause-in_range : goal.write_field-requires-in-Tuple-clause-in_range
write_field-requires-in-Tuple-clause-in_range c =
    let r = fields_in c.args.schema.now c.args.offset (slices_in c.args.store.now) c.args.index c.in-Tuple.is c.requires.in_range in
    rw c.deref-in-Tuple.ensures r.0

pub returns-in_err-write_field-in-Tuple : goal.returns-in_err-write_field-in-Tuple
returns-in_err-write_field-in-Tuple c =
    let e = c.in_err-write_field-in-Tuple.field-0.0 in
    row_passed c.args.out.now.items c.write_field-in-Tuple.new.out.items _ _ e c.from_residual.result c.from_residual.ensures.1
    (fields_wrote c.args.schema.now (stored_row c.args.schema.now (slices_in c.args.store.now) c.args.offset c.args.index) _ _ c.args.out.now.items c.write_field-in-Tuple.new.out.items (Err e) c.in-Tuple.is (fields_row c.args.schema.now c.args.offset (slices_in c.args.store.now) c.args.index c.in-Tuple.is c.requires.in_range)
    (row_failed c.args.out.now.items c.write_field-in-Tuple.new.out.items [] [] _ _ e (rw c.deref-in-Tuple.ensures at c.in_err-write_field-in-Tuple.ensures)))

pub write_later-requires-clause-counted : goal.write_later-requires-clause-counted
write_later-requires-clause-counted c = rw c.deref-in-Tuple-3.ensures (others_counted c.args.schema.now c.in-Tuple.is c.requires.counted)

pub write_later-requires-clause-fits : goal.write_later-requires-clause-fits
write_later-requires-clause-fits c = rw (c.slice_count_of.ensures, c.deref-in-Tuple-2.ensures, c.deref-in-Tuple-3.ensures) (others_fit c.args.schema.now c.args.offset (slices_in c.args.store.now) c.in-Tuple.is c.requires.fits)

pub write_later-requires-clause-in_range : goal.write_later-requires-clause-in_range
write_later-requires-clause-in_range c =
    let r = fields_in c.args.schema.now c.args.offset (slices_in c.args.store.now) c.args.index c.in-Tuple.is c.requires.in_range in
    rw (c.slice_count_of.ensures, c.deref-in-Tuple-2.ensures, c.deref-in-Tuple-3.ensures) r.1

pub returns-in-Solo : goal.returns-in-Solo
returns-in-Solo c = only_wrote c.args.schema.now (stored_row c.args.schema.now (slices_in c.args.store.now) c.args.offset c.args.index) _ c.args.out.now.items c.write_field.new.out.items c.write_field.result c.in-Solo.is (only_row c.args.schema.now c.args.offset (slices_in c.args.store.now) c.args.index c.in-Solo.is c.requires.in_range) (rw c.deref.ensures at c.write_field.ensures)

pub returns-in_ok-push_bytes-in-Tuple : goal.returns-in_ok-push_bytes-in-Tuple
returns-in_ok-push_bytes-in-Tuple c =
    fields_wrote c.args.schema.now (stored_row c.args.schema.now (slices_in c.args.store.now) c.args.offset c.args.index) _ _ c.args.out.now.items c.write_later.new.out.items c.write_later.result c.in-Tuple.is (fields_row c.args.schema.now c.args.offset (slices_in c.args.store.now) c.args.index c.in-Tuple.is c.requires.in_range)
    (comma_between c.args.out.now.items c.write_field-in-Tuple.new.out.items c.push_bytes.new.out.items c.write_later.new.out.items _ _ _ _ c.write_later.result (rw c.deref-in-Tuple.ensures at c.in_ok-write_field-in-Tuple.ensures) c.in_ok-push_bytes-in-Tuple.ensures (rw (c.slice_count_of.ensures, c.deref-in-Tuple-2.ensures, c.deref-in-Tuple-3.ensures) at c.write_later.ensures))
