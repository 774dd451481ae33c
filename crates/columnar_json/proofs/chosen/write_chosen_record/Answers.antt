use Rattle.std.proofs.Common.{arith}
use Rattle.columnar_json.specs.FieldLaws.{none_shown, some_shown}
use Rattle.columnar_json.proofs.chosen.write_chosen_record.Goals as goal

pub returns-then-len-start : goal.returns-then-len-start
returns-then-len-start c = none_shown c.args.out.now.items c.write_all_chosen.new.out.items c.push_bytes.new.out.items _ _ c.push_bytes.result c.in_ok-write_all_chosen.ensures (omega (arith, c.len.ensures, c.len-start.ensures, c.if-len-start.true)) c.push_bytes.ensures

pub returns-else-len-start : goal.returns-else-len-start
returns-else-len-start c = some_shown c.args.out.now.items c.write_all_chosen.new.out.items _ _ c.in_ok-write_all_chosen.ensures (λ z. c.if-len-start.false (omega (arith, z, c.len.ensures, c.len-start.ensures)))
