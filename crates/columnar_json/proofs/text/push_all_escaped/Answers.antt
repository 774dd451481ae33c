use Rattle.std.proofs.Common.{[], take}
use Rattle.std.specs.List.{flat_map}
use Rattle.columnar_json.specs.Json.{escaped}
use Rattle.columnar_json.specs.WrittenLaws.{failed, passed}
use Rattle.columnar_json.proofs.text.push_all_escaped.Goals as goal

pub returns-in_err-push_escaped : goal.returns-in_err-push_escaped
returns-in_err-push_escaped c = passed c.args.out.now.items c.push_escaped.new.out.items (flat_map escaped c.args.bytes.now) [] c.in_err-push_escaped.field-0.0 c.from_residual.result c.from_residual.ensures.1 (failed c.args.out.now.items c.loop-byte.out.items c.push_escaped.new.out.items (flat_map escaped (take c.loop-byte.byte-index c.args.bytes.now)) [] (flat_map escaped c.args.bytes.now) [] c.in_err-push_escaped.field-0.0 c.loop-byte.invariant c.in_err-push_escaped.ensures)
