use Rattle.std.proofs.Common.{rules, arith, ◌≡◌, ◌*◌, ◌∙◌, refl}
use Rattle.std.proofs.lemmas.List.{length-replicate, length-set}
use Rattle.columnar_base.specs.ArrayLaws.{array_read, array_read_more}
use Rattle.columnar_base.proofs.element.array.ArrayElement.from_le_bytes.Goals as goal

pub loop-i-init : goal.loop-i-init
loop-i-init g c = let z : g.T.Element.size * 0 ≡ 0 = omega arith in record { long = length-replicate g.row.N c.element_in-items.result; counted = search rules; read = rw z refl }

pub loop-i-preserved : goal.loop-i-preserved
loop-i-preserved g c =
    let k = c.loop-i.invariant in
    record {
      long = length-set c.loop-i.items c.loop-i.i c.element_in.result ∙ k.long;
      counted = k.counted;
      read = array_read_more g.T.Element.le_bytes g.T.Element.size c.loop-i.i c.loop-i.items c.element_in.result c.args.bytes.now (omega (arith, c.loop-i-test.true, k.long)) c.element_in.ensures k.read;
    }

pub returns : goal.returns
returns g c =
    let k = c.loop-i.invariant in
    let i : c.loop-i.i ≡ g.row.N = omega (arith, c.loop-i-test.false, c.loop-i.auto.i-end) in
    array_read g.row.N g.met.T.Element.element c.loop-i.items c.args.bytes.now k.long k.counted c.requires (rw i at k.read)
