use Rattle.std.proofs.Common.{arith, ◌∙◌}
use Rattle.std.proofs.lemmas.List.{length-set}
use Rattle.std.specs.List.{flat_map}
use Rattle.columnar_core.specs.Bytes.{word}
use Rattle.columnar_core.specs.BlockLaws.{put_more}
use Rattle.columnar_core.proofs.byte_slice.read_each.Goals as goal

pub loop-i-preserved : goal.loop-i-preserved
loop-i-preserved g c =
    let k = c.loop-i.invariant in
    record {
      long = length-set c.loop-i.block c.loop-i.i c.word_of.result ∙ k.long;
      put = put_more (word (flat_map g.T.Element.le_bytes c.args.items.now)) c.args.from c.loop-i.i c.loop-i.block c.word_of.result (omega (arith, c.loop-i-test.true, c.loop-i.auto.i-end, k.long)) c.word_of.ensures k.put;
    }
