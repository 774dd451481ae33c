use Rattle.std.proofs.Common.{arith, drop, ◌+◌}
use Rattle.columnar_base.specs.ChangeLaws.{passed_on}
use Rattle.columnar_core.specs.Bytes.{le_bytes}
use Rattle.columnar_core.specs.ByteLaws.{block_out}
use Rattle.columnar_core.specs.SentLaws.{sent_part, sent_more}
use Rattle.columnar_core.proofs.byte_slice.write_blocks.Goals as goal

pub returns-in_err-write_all-clause-err : goal.returns-in_err-write_all-clause-err
returns-in_err-write_all-clause-err g c =
    let contents = g.W.WriteBytes.contents in
    let words = c.args.words.now in
    rw (passed_on c.from_residual.result c.from_residual.ensures.1) (sent_part (contents c.args.writer.now) (contents c.loop-at.writer) (contents c.write_all.new.self) _ c.write_u64_into.new.dst (le_bytes (drop (c.loop-at.at + c.min.result) words)) (le_bytes words) c.loop-at.invariant.sent
    (block_out words c.loop-at.at (c.loop-at.at + c.min.result) c.write_u64_into.new.dst (omega arith) c.write_u64_into.ensures) c.in_err-write_all.ensures.err)

pub loop-at-preserved : goal.loop-at-preserved
loop-at-preserved g c =
    let contents = g.W.WriteBytes.contents in
    let words = c.args.words.now in
    record {
      within = omega (arith, c.min.ensures);
      sent = sent_more (contents c.args.writer.now) (contents c.loop-at.writer) (contents c.write_all.new.self) _ c.write_u64_into.new.dst (le_bytes (drop (c.loop-at.at + c.min.result) words)) (le_bytes words) c.loop-at.invariant.sent
          (block_out words c.loop-at.at (c.loop-at.at + c.min.result) c.write_u64_into.new.dst (omega arith) c.write_u64_into.ensures) c.in_ok-write_all.ensures.ok;
    }
