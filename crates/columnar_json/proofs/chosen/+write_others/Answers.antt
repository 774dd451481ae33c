use Rattle.std.specs.Prelude.{map}
use Rattle.columnar_core.specs.Store.{slices_in}
use Rattle.columnar_json.specs.Csv.{fields_of}
use Rattle.columnar_json.specs.Json.{flaws_of}
use Rattle.columnar_json.specs.RecordLaws.{names_begin}
use Rattle.columnar_json.specs.Stored.{stored_row}
use Rattle.columnar_json.specs.Views.{field_in, of_named}
use Rattle.columnar_json.specs.WrittenLaws.{row_passed}
use Rattle.columnar_json.specs.ChosenLaws.{after_failed, chosen_after}
use Rattle.columnar_json.proofs.chosen.+write_others.Goals as goal

pub returns-in_err-write_chosen-in-Some : goal.returns-in_err-write_chosen-in-Some
returns-in_err-write_chosen-in-Some t c =
    let x = c.in_err-write_chosen-in-Some.field-0.0 in
    let e = names_begin c.args.names.now c.in-Some.rest.now c.in-Some.name.now (λ n. n.now) c.in-Some.ensures.cases.0 in
    row_passed c.args.out.now.items c.write_chosen.new.out.items _ _ x c.from_residual-in_err-write_chosen-in-Some.result c.from_residual-in_err-write_chosen-in-Some.ensures.1
    (after_failed (λ n. of_named (field_in c.args.form) n (fields_of c.args.schema.now (stored_row c.args.schema.now (slices_in c.args.store.now) c.args.offset c.args.index))) (λ n. of_named flaws_of n (fields_of c.args.schema.now (stored_row c.args.schema.now (slices_in c.args.store.now) c.args.offset c.args.index))) (map (λ n. n.now) c.args.names.now) (map (λ n. n.now) c.in-Some.rest.now) c.in-Some.name.now.now c.args.out.now.items c.push_bytes-in-Some.new.out.items c.write_chosen.new.out.items x e c.in_ok-push_bytes-in-Some.ensures c.in_err-write_chosen-in-Some.ensures)

pub returns-in_ok-write_chosen-in-Some : goal.returns-in_ok-write_chosen-in-Some
returns-in_ok-write_chosen-in-Some t c =
    let e = names_begin c.args.names.now c.in-Some.rest.now c.in-Some.name.now (λ n. n.now) c.in-Some.ensures.cases.0 in
    chosen_after (λ n. of_named (field_in c.args.form) n (fields_of c.args.schema.now (stored_row c.args.schema.now (slices_in c.args.store.now) c.args.offset c.args.index))) (λ n. of_named flaws_of n (fields_of c.args.schema.now (stored_row c.args.schema.now (slices_in c.args.store.now) c.args.offset c.args.index))) (map (λ n. n.now) c.args.names.now) (map (λ n. n.now) c.in-Some.rest.now) c.in-Some.name.now.now c.args.out.now.items c.push_bytes-in-Some.new.out.items c.write_chosen.new.out.items c.write_others.new.out.items c.write_others.result e c.in_ok-push_bytes-in-Some.ensures c.in_ok-write_chosen-in-Some.ensures c.write_others.ensures
