use Rattle.std.proofs.Common.{arith, ◌∙◌}
use Rattle.std.proofs.lemmas.List.{length-set}
use Rattle.columnar_core.specs.Bytes.{word}
use Rattle.columnar_core.specs.BlockLaws.{put_more}
use Rattle.columnar_core.proofs.byte_slice.read_bytes.Goals as goal

pub loop-i-preserved : goal.loop-i-preserved
loop-i-preserved c =
    let k = c.loop-i.invariant in
    record {
      long = length-set c.loop-i.block c.loop-i.i c.word_or_zeros.result ∙ k.long;
      put = put_more (word c.args.bytes.now) c.args.from c.loop-i.i c.loop-i.block c.word_or_zeros.result (omega (arith, c.loop-i-test.true, c.loop-i.auto.i-end, k.long)) c.word_or_zeros.ensures k.put;
    }
