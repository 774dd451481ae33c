use Rattle.columnar_json.specs.TextLaws.{text_flawed, text_flawless}
use Rattle.columnar_json.specs.WrittenLaws.{begins}
use Rattle.columnar_strings.specs.StringLaws.{bytes_back}
use Rattle.columnar_json.proofs.text.push_plain_text.Goals as goal

pub returns-in-Ok : goal.returns-in-Ok
returns-in-Ok c = rw (bytes_back c.args.bytes.now (λ i. (c.type_inv.bytes i).fits), text_flawless c.args.bytes.now c.in-Ok.ensures.ok.1) c.push_bytes.ensures

pub returns-in-Err : goal.returns-in-Err
returns-in-Err c = (begins c.args.out.now.items, rw (bytes_back c.args.bytes.now (λ i. (c.type_inv.bytes i).fits)) (text_flawed c.args.bytes.now c.in-Err.ensures.err.1))
