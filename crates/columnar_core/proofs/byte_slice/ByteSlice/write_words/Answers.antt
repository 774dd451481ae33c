use Rattle.std.proofs.Common.{rules, ◌+◌, ◌*◌, ◌∙◌, take, drop, length, length-append, arith}
use Rattle.std.proofs.lemmas.List.{length-drop, length-take-le, take-append-le}
use Rattle.columnar_base.specs.ChangeLaws.{passed_on}
use Rattle.columnar_core.specs.Slices.{bytes_in}
use Rattle.columnar_core.specs.BlockLaws.{filled_out}
use Rattle.columnar_core.specs.SentLaws.{sent_more, sent_part}
use Rattle.columnar_core.proofs.byte_slice.ByteSlice.write_words.Goals as goal

pub returns-in_err-write_all-clause-err : goal.returns-in_err-write_all-clause-err
returns-in_err-write_all-clause-err g c =
    let contents = g.W.WriteBytes.contents in
    let all = bytes_in c.args.self.now in
    let n = c.min-next.result in
    let k = c.min-in-loop-at.result in
    let size = length-take-le n c.loop-at.block (omega (arith, c.loop-at.invariant.words, c.min-next.ensures)) in
    rw (passed_on c.from_residual.result c.from_residual.ensures.1) (sent_part (contents c.args.writer.now) (contents c.loop-at.writer) (contents c.write_all.new.self) _ _ (drop (8 * (c.loop-at.at + n)) all) all c.loop-at.invariant.sent
    (filled_out all c.loop-at.at n k c.write_u64_into.new.dst _ c.args.self.now.counted.bytes (omega (arith, c.loop-at-test.true, c.len-count.ensures)) (omega (arith, c.loop-at-test.true, c.len-count.ensures, c.min-next.ensures)) (omega (arith, c.min-in-loop-at.ensures)) (omega (arith, c.loop-at-test.true, c.len-count.ensures, c.min-in-loop-at.ensures)) (λ l. omega (arith, l, c.loop-at-test.true, c.len-count.ensures, c.min-in-loop-at.ensures)) (λ l. omega (arith, l, c.loop-at-test.true, c.len-count.ensures, c.min-in-loop-at.ensures)) (rw (c.read_words.ensures, size) at c.write_u64_into.ensures) (take-append-le k c.write_u64_into.new.dst _ (search rules)))
    c.in_err-write_all.ensures.err)

pub loop-at-preserved : goal.loop-at-preserved
loop-at-preserved g c =
    let contents = g.W.WriteBytes.contents in
    let all = bytes_in c.args.self.now in
    let n = c.min-next.result in
    let k = c.min-in-loop-at.result in
    let size = length-take-le n c.loop-at.block (omega (arith, c.loop-at.invariant.words, c.min-next.ensures)) in
    record {
      words = length-append c.read_words.new.block (drop n c.loop-at.block) ∙ omega (arith, size, length-drop n c.loop-at.block, c.loop-at.invariant.words, c.min-next.ensures, c.read_words.auto.block);
      sent = sent_more (contents c.args.writer.now) (contents c.loop-at.writer) (contents c.write_all.new.self) _ _ (drop (8 * (c.loop-at.at + n)) all) all c.loop-at.invariant.sent
          (filled_out all c.loop-at.at n k c.write_u64_into.new.dst _ c.args.self.now.counted.bytes (omega (arith, c.loop-at-test.true, c.len-count.ensures)) (omega (arith, c.loop-at-test.true, c.len-count.ensures, c.min-next.ensures)) (omega (arith, c.min-in-loop-at.ensures)) (omega (arith, c.loop-at-test.true, c.len-count.ensures, c.min-in-loop-at.ensures)) (λ l. omega (arith, l, c.loop-at-test.true, c.len-count.ensures, c.min-in-loop-at.ensures)) (λ l. omega (arith, l, c.loop-at-test.true, c.len-count.ensures, c.min-in-loop-at.ensures)) (rw (c.read_words.ensures, size) at c.write_u64_into.ensures) (take-append-le k c.write_u64_into.new.dst _ (search rules)))
          c.in_ok-write_all.ensures.ok;
    }
