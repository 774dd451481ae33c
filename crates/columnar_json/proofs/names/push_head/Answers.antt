use Rattle.std.proofs.Common.{[]}
use Rattle.std.specs.Prelude.{Ok, map}
use Rattle.columnar_json.specs.Csv.{field_of}
use Rattle.columnar_json.specs.FieldLaws.{name_wrote}
use Rattle.columnar_json.specs.Pieces.{plain}
use Rattle.columnar_json.specs.RecordLaws.{names_begin, one_first}
use Rattle.columnar_json.proofs.names.push_head.Goals as goal

pub returns-in_ok-push_field-in-Some : goal.returns-in_ok-push_field-in-Some
returns-in_ok-push_field-in-Some c =
    let e = names_begin c.args.names.now c.in-Some.rest.now c.in-Some.name.now (λ n. n.now) c.in-Some.ensures.cases.0 in
    one_first (λ n. field_of (plain n)) (map (λ n. n.now) c.args.names.now) (map (λ n. n.now) c.in-Some.rest.now) c.in-Some.name.now.now c.args.out.now.items c.push_field.new.out.items c.push_others.new.out.items [] [] c.push_others.result e (name_wrote c.in-Some.name.now.now c.args.out.now.items c.push_field.new.out.items (Ok tt) c.in_ok-push_field-in-Some.ensures) c.push_others.ensures
