use Rattle.std.proofs.Common.{arith}
use Rattle.columnar_json.specs.TextLaws.{digits_more, is_wide}
use Rattle.columnar_json.proofs.text.+push_large.Goals as goal

pub returns : goal.returns
returns t c = digits_more c.args.out.now.items c.push_large.new.out.items c.push_byte.new.out.items c.args.n c.push_byte.result (omega (arith, c.if-n.false)) (is_wide c.args.n c.ranges.n.fits) c.in_ok-push_large.ensures c.push_byte.ensures
