use Rattle.columnar_json.specs.WrittenLaws.{between_wrote}
use Rattle.columnar_json.proofs.chosen.write_object.Goals as goal

pub returns : goal.returns
returns c = between_wrote c.args.out.now.items c.push_bytes.new.out.items c.write_all_chosen.new.out.items c.push_bytes-2.new.out.items _ _ _ _ c.push_bytes-2.result c.in_ok-push_bytes.ensures c.in_ok-write_all_chosen.ensures c.push_bytes-2.ensures
