use Rattle.std.proofs.Common.{arith}
use Rattle.columnar_json.specs.TextLaws.{digit_alone, digits_more}
use Rattle.columnar_json.proofs.text.+push_number.Goals as goal
use Rattle.columnar_json.proofs.text.+push_number.Goals.{then-n-ge10+in_ok-push_number, else-n-ge10}

pub returns : goal.returns
returns t c = elim c.if-n-ge10.branch [
  | then-n-ge10+in_ok-push_number w ↦ digits_more c.args.out.now.items w.push_number.new.out.items c.push_byte.new.out.items c.args.n c.push_byte.result w.if-n-ge10.true (omega (arith, c.ranges.n.fits)) w.in_ok-push_number.ensures (rw w.out-is at c.push_byte.ensures)
  | else-n-ge10 w ↦ digit_alone c.args.out.now.items c.push_byte.new.out.items c.args.n c.push_byte.result w.if-n-ge10.false (rw w.out-is at c.push_byte.ensures)
]
