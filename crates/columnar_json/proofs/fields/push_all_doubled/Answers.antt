use Rattle.std.proofs.Common.{[], take}
use Rattle.std.specs.List.{flat_map}
use Rattle.columnar_json.specs.Csv.{doubled}
use Rattle.columnar_json.specs.WrittenLaws.{failed, passed}
use Rattle.columnar_json.proofs.fields.push_all_doubled.Goals as goal

pub returns-in_err-push_doubled : goal.returns-in_err-push_doubled
returns-in_err-push_doubled c = passed c.args.out.now.items c.push_doubled.new.out.items (flat_map doubled c.args.bytes.now) [] c.in_err-push_doubled.field-0.0 c.from_residual.result c.from_residual.ensures.1 (failed c.args.out.now.items c.loop-byte.out.items c.push_doubled.new.out.items (flat_map doubled (take c.loop-byte.byte-index c.args.bytes.now)) [] (flat_map doubled c.args.bytes.now) [] c.in_err-push_doubled.field-0.0 c.loop-byte.invariant c.in_err-push_doubled.ensures)
