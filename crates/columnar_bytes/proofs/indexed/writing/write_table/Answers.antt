use Rattle.std.proofs.Common.{[], arith, ap, ◌∙◌, ◌≡◌, ◌+◌, ◌<◌, ◌*◌, length, get_or, drop}
use Rattle.columnar_core.specs.Format.{slices_of}
use Rattle.columnar_core.specs.Bytes.{word_bytes, le_bytes, rounded}
use Rattle.columnar_core.specs.Words.{table_words, slice_ends}
use Rattle.columnar_core.specs.WordLaws.{length-words}
use Rattle.columnar_bytes.specs.PlanLaws.{words_rest, ends_bytes, table_bytes}
use Rattle.columnar_core.specs.SentLaws.{sent_more, sent_part, sent_none}
use Rattle.columnar_core.specs.ChangeLaws.{passed_on}
use Rattle.columnar_bytes.proofs.indexed.writing.write_table.Goals as goal

pub overflow_add-start : goal.overflow_add-start
overflow_add-start g c = omega (arith, length-words (slices_of (g.S.Column.content c.args.item.now)), c.slice_count-count.ensures, c.requires.room)

pub overflow_mul-start : goal.overflow_mul-start
overflow_mul-start g c = omega (arith, length-words (slices_of (g.S.Column.content c.args.item.now)), c.slice_count-count.ensures, c.requires.room)

pub returns-in_err-write_word-clause-err : goal.returns-in_err-write_word-clause-err
returns-in_err-write_word-clause-err g c =
    let slices = slices_of (g.S.Column.content c.args.item.now) in
    let before = g.W.WriteBytes.contents c.args.writer.now in
    let all = le_bytes (table_words slices) in
    rw (passed_on c.from_residual.result c.from_residual.ensures.1) (sent_part before before (g.W.WriteBytes.contents c.write_word.new.writer) all (word_bytes (8 * (c.slice_count-count.result + 1))) (le_bytes (slice_ends (8 * (c.slice_count-count.result + 1)) slices)) all
    (sent_none before all) (table_bytes slices c.slice_count-count.result c.slice_count-count.ensures) c.in_err-write_word.ensures.err)

pub loop-i-init : goal.loop-i-init
loop-i-init g c =
    let slices = slices_of (g.S.Column.content c.args.item.now) in
    let before = g.W.WriteBytes.contents c.args.writer.now in
    let all = le_bytes (table_words slices) in
    record {
      sent = sent_more before before (g.W.WriteBytes.contents c.write_word.new.writer) all (word_bytes (8 * (c.slice_count-count.result + 1))) (le_bytes (slice_ends (8 * (c.slice_count-count.result + 1)) slices)) all
          (sent_none before all) (table_bytes slices c.slice_count-count.result c.slice_count-count.ensures) c.in_ok-write_word.ensures.ok;
      room = omega (arith, length-words slices, c.slice_count-count.ensures);
      even = omega arith;
    }

pub overflow_add-end : goal.overflow_add-end
overflow_add-end g c =
    let slices = slices_of (g.S.Column.content c.args.item.now) in
    let rest = words_rest slices c.loop-i.i (omega (arith, c.slice_count-count.ensures)) in
    omega (arith, rest, c.loop-i.invariant.room, c.requires.room, c.len.ensures, ap length c.byte_slice.ensures)

pub round_up-start-requires : goal.round_up-start-requires
round_up-start-requires g c =
    let slices = slices_of (g.S.Column.content c.args.item.now) in
    let rest = words_rest slices c.loop-i.i (omega (arith, c.slice_count-count.ensures)) in
    omega (arith, rest, c.loop-i.invariant.room, c.requires.room, c.len.ensures, ap length c.byte_slice.ensures)

pub returns-in_err-write_word-2-clause-err : goal.returns-in_err-write_word-2-clause-err
returns-in_err-write_word-2-clause-err g c =
    let slices = slices_of (g.S.Column.content c.args.item.now) in
    let l : c.loop-i.i < length slices = omega (arith, c.slice_count-count.ensures) in
    let size : c.len.result ≡ length (get_or slices c.loop-i.i []) = c.len.ensures ∙ ap length c.byte_slice.ensures in
    let contents = g.W.WriteBytes.contents in
    let end = c.loop-i.start + c.len.result in
    rw (passed_on c.from_residual-in_err-write_word-2.result c.from_residual-in_err-write_word-2.ensures.1) (sent_part (contents c.args.writer.now) (contents c.loop-i.writer) (contents c.write_word-in-loop-i.new.writer) _ (word_bytes end) (le_bytes (slice_ends (rounded end) (drop (c.loop-i.i + 1) slices))) (le_bytes (table_words slices))
    c.loop-i.invariant.sent
    (ends_bytes c.loop-i.start slices c.loop-i.i end (rounded end) l (ap (λ n. c.loop-i.start + n) size) (omega arith))
    c.in_err-write_word-2.ensures.err)

pub loop-i-preserved : goal.loop-i-preserved
loop-i-preserved g c =
    let slices = slices_of (g.S.Column.content c.args.item.now) in
    let l : c.loop-i.i < length slices = omega (arith, c.slice_count-count.ensures) in
    let rest = words_rest slices c.loop-i.i l in
    let size : c.len.result ≡ length (get_or slices c.loop-i.i []) = c.len.ensures ∙ ap length c.byte_slice.ensures in
    let contents = g.W.WriteBytes.contents in
    record {
      sent = sent_more (contents c.args.writer.now) (contents c.loop-i.writer) (contents c.write_word-in-loop-i.new.writer) _ (word_bytes (c.loop-i.start + c.len.result)) _ (le_bytes (table_words slices))
          c.loop-i.invariant.sent
          (ends_bytes c.loop-i.start slices c.loop-i.i (c.loop-i.start + c.len.result) c.round_up-start.result l (ap (λ n. c.loop-i.start + n) size) c.round_up-start.ensures)
          c.in_ok-write_word-2.ensures.ok;
      room = omega (arith, rest, c.loop-i.invariant.room, c.loop-i.invariant.even, size, c.round_up-start.ensures);
      even = omega (arith, c.round_up-start.ensures);
    }
