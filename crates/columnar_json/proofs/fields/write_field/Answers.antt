use Rattle.columnar_json.specs.Csv.{csv_value, field_csv}
use Rattle.columnar_json.specs.FieldLaws.{field_failed, field_wrote}
use Rattle.columnar_json.specs.Json.{flaws_of}
use Rattle.columnar_json.specs.Stored.{stored_row}
use Rattle.columnar_json.specs.WrittenLaws.{row_passed}
use Rattle.columnar_core.specs.Store.{slices_in}
use Rattle.columnar_json.proofs.fields.write_field.Goals as goal

pub returns-in_err-write_value : goal.returns-in_err-write_value
returns-in_err-write_value c =
    let row = stored_row c.args.schema.now (slices_in c.args.store.now) c.args.offset c.args.index in
    row_passed c.args.out.now.items c.args.out.now.items (field_csv c.args.schema.now row) (flaws_of c.args.schema.now row) c.in_err-write_value.field-0.0 c.from_residual.result c.from_residual.ensures.1
    (field_failed c.write_value.new.out.items c.args.out.now.items (csv_value c.args.schema.now row) (field_csv c.args.schema.now row) (flaws_of c.args.schema.now row) c.in_err-write_value.field-0.0 (rw c.clear.ensures.items at c.in_err-write_value.ensures))

pub returns : goal.returns
returns c =
    let row = stored_row c.args.schema.now (slices_in c.args.store.now) c.args.offset c.args.index in
    field_wrote c.write_value.new.out.items c.args.out.now.items c.push_field.new.out.items (csv_value c.args.schema.now row) (flaws_of c.args.schema.now row) c.push_field.result (rw c.clear.ensures.items at c.in_ok-write_value.ensures) (rw c.as_slice.ensures.value at c.push_field.ensures)
