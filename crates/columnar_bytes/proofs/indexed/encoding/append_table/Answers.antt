use Rattle.std.proofs.Common.{Some, ◌∷◌, [], arith, ap, ◌∙◌, ◌≡◌, ◌++◌, ◌+◌, ◌<◌, ◌*◌, drop, length, get_or}
use Rattle.columnar_core.specs.Format.{slices_of}
use Rattle.columnar_core.specs.Bytes.{rounded}
use Rattle.columnar_core.specs.Words.{slice_ends, table_words}
use Rattle.columnar_core.specs.WordLaws.{length-words}
use Rattle.columnar_core.specs.SentLaws.{sent_more, sent_none, sent_length}
use Rattle.columnar_bytes.specs.PlanLaws.{words_rest, ends_step, table_step}
use Rattle.columnar_bytes.proofs.indexed.encoding.append_table.Goals as goal

pub overflow_add-start : goal.overflow_add-start
overflow_add-start g c = omega (arith, length-words (slices_of (g.S.Column.content c.args.item.now)), c.slice_count-count.ensures, c.requires.counted)

pub overflow_mul-start : goal.overflow_mul-start
overflow_mul-start g c = omega (arith, length-words (slices_of (g.S.Column.content c.args.item.now)), c.slice_count-count.ensures, c.requires.counted)

pub loop-i-init : goal.loop-i-init
loop-i-init g c =
    let slices = slices_of (g.S.Column.content c.args.item.now) in
    let before = Some c.args.store.now.items in
    record {
      sent = sent_more before before (Some c.push_word.new.store.items) (table_words slices) (8 * (c.slice_count-count.result + 1) ∷ []) _ (table_words slices)
          (sent_none before (table_words slices)) (table_step slices c.slice_count-count.result c.slice_count-count.ensures) c.push_word.ensures.items;
      capacity = omega arith;
      left = omega (arith, length-words slices, c.slice_count-count.ensures);
      even = omega arith;
    }

pub overflow_add-end : goal.overflow_add-end
overflow_add-end g c =
    let slices = slices_of (g.S.Column.content c.args.item.now) in
    let rest = words_rest slices c.loop-i.i (omega (arith, c.slice_count-count.ensures)) in
    omega (arith, rest, c.loop-i.invariant.left, c.requires.counted, c.len.ensures, ap length c.byte_slice.ensures)

pub round_up-start-requires : goal.round_up-start-requires
round_up-start-requires g c =
    let slices = slices_of (g.S.Column.content c.args.item.now) in
    let rest = words_rest slices c.loop-i.i (omega (arith, c.slice_count-count.ensures)) in
    omega (arith, rest, c.loop-i.invariant.left, c.requires.counted, c.len.ensures, ap length c.byte_slice.ensures)

pub push_word-requires-in-loop-i : goal.push_word-requires-in-loop-i
push_word-requires-in-loop-i g c =
    let slices = slices_of (g.S.Column.content c.args.item.now) in
    let size : c.len.result ≡ length (get_or slices c.loop-i.i []) = c.len.ensures ∙ ap length c.byte_slice.ensures in
    let end = c.loop-i.start + c.len.result in
    let rest : slice_ends c.loop-i.start (drop c.loop-i.i slices) ≡ (end ∷ []) ++ slice_ends (rounded end) (drop (c.loop-i.i + 1) slices) =
    ends_step c.loop-i.start slices c.loop-i.i end (rounded end) (omega (arith, c.slice_count-count.ensures)) (ap (λ n. c.loop-i.start + n) size) (omega arith) in
    let sizes = sent_length c.args.store.now.items c.loop-i.store.items (slice_ends c.loop-i.start (drop c.loop-i.i slices)) (table_words slices) c.loop-i.invariant.sent in
    omega (arith, sizes, ap length rest, c.loop-i.invariant.capacity, c.requires.room, c.args.store.now.ok.0, c.loop-i.store.ok.0)

pub loop-i-preserved : goal.loop-i-preserved
loop-i-preserved g c =
    let slices = slices_of (g.S.Column.content c.args.item.now) in
    let l : c.loop-i.i < length slices = omega (arith, c.slice_count-count.ensures) in
    let rest = words_rest slices c.loop-i.i l in
    let size : c.len.result ≡ length (get_or slices c.loop-i.i []) = c.len.ensures ∙ ap length c.byte_slice.ensures in
    record {
      sent = sent_more (Some c.args.store.now.items) (Some c.loop-i.store.items) (Some c.push_word-in-loop-i.new.store.items) _ ((c.loop-i.start + c.len.result) ∷ []) _ (table_words slices)
          c.loop-i.invariant.sent
          (ends_step c.loop-i.start slices c.loop-i.i (c.loop-i.start + c.len.result) c.round_up-start.result l (ap (λ n. c.loop-i.start + n) size) c.round_up-start.ensures)
          c.push_word-in-loop-i.ensures.items;
      capacity = omega arith;
      left = omega (arith, rest, c.loop-i.invariant.left, c.loop-i.invariant.even, size, c.round_up-start.ensures);
      even = omega (arith, c.round_up-start.ensures);
    }
