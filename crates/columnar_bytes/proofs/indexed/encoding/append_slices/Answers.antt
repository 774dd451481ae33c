use Rattle.std.proofs.Common.{Some, ◌≡◌, ◌++◌, ◌+◌, arith, ap, ◌∙◌, drop, length, length-append, sym}
use Rattle.std.specs.List.{flat_map}
use Rattle.columnar_core.specs.Format.{slices_of}
use Rattle.columnar_core.specs.Words.{slice_words}
use Rattle.columnar_core.specs.Slices.{bytes_in}
use Rattle.columnar_core.specs.SentLaws.{sent_more, sent_length}
use Rattle.columnar_bytes.specs.PlanLaws.{pieces_rest}
use Rattle.columnar_bytes.proofs.indexed.encoding.append_slices.Goals as goal

pub append_slice-requires : goal.append_slice-requires
append_slice-requires g c =
    let slices = slices_of (g.S.Column.content c.args.item.now) in
    let piece = slice_words (bytes_in c.byte_slice.result) in
    let after = flat_map slice_words (drop (c.loop-i.i + 1) slices) in
    let rest : flat_map slice_words (drop c.loop-i.i slices) ≡ piece ++ after =
    pieces_rest slice_words slices c.loop-i.i (omega (arith, c.slice_count-i-end.ensures)) ∙ ap (λ s. slice_words s ++ after) (sym c.byte_slice.ensures) in
    let sizes = sent_length c.args.store.now.items c.loop-i.store.items (flat_map slice_words (drop c.loop-i.i slices)) (flat_map slice_words slices) c.loop-i.invariant.sent in
    omega (arith, sizes, ap length rest, length-append piece after, c.loop-i.invariant.capacity, c.requires.room, c.args.store.now.ok.0, c.loop-i.store.ok.0)

pub loop-i-preserved : goal.loop-i-preserved
loop-i-preserved g c =
    let slices = slices_of (g.S.Column.content c.args.item.now) in
    let after = flat_map slice_words (drop (c.loop-i.i + 1) slices) in
    record {
      sent = sent_more (Some c.args.store.now.items) (Some c.loop-i.store.items) (Some c.append_slice.new.store.items) _ (slice_words (bytes_in c.byte_slice.result)) after _
          c.loop-i.invariant.sent
          (pieces_rest slice_words slices c.loop-i.i (omega (arith, c.slice_count-i-end.ensures)) ∙ ap (λ s. slice_words s ++ after) (sym c.byte_slice.ensures))
          c.append_slice.ensures.items;
      capacity = omega arith;
    }
