use Rattle.std.proofs.Common.{arith, ap, ◌∙◌, ◌++◌, ◌+◌, drop, sym}
use Rattle.columnar_core.specs.Format.{slices_of}
use Rattle.std.specs.List.{flat_map}
use Rattle.columnar_core.specs.Words.{padded}
use Rattle.columnar_bytes.specs.PlanLaws.{pieces_rest}
use Rattle.columnar_core.specs.SentLaws.{sent_part, sent_more}
use Rattle.columnar_core.specs.Slices.{bytes_in}
use Rattle.columnar_core.specs.ChangeLaws.{passed_on}
use Rattle.columnar_bytes.proofs.indexed.writing.write_slices.Goals as goal

pub returns-in_err-write_padded-clause-err : goal.returns-in_err-write_padded-clause-err
returns-in_err-write_padded-clause-err g c =
    let slices = slices_of (g.S.Column.content c.args.item.now) in
    let contents = g.W.WriteBytes.contents in
    let rest = flat_map padded (drop (c.loop-i.i + 1) slices) in
    rw (passed_on c.from_residual.result c.from_residual.ensures.1) (sent_part (contents c.args.writer.now) (contents c.loop-i.writer) (contents c.write_padded.new.writer) _ (padded (bytes_in c.byte_slice.result)) rest _
    c.loop-i.invariant
    (pieces_rest padded slices c.loop-i.i (omega (arith, c.slice_count-i-end.ensures)) ∙ ap (λ s. padded s ++ rest) (sym c.byte_slice.ensures))
    c.in_err-write_padded.ensures.err)

pub loop-i-preserved : goal.loop-i-preserved
loop-i-preserved g c =
    let slices = slices_of (g.S.Column.content c.args.item.now) in
    let contents = g.W.WriteBytes.contents in
    let rest = flat_map padded (drop (c.loop-i.i + 1) slices) in
    sent_more (contents c.args.writer.now) (contents c.loop-i.writer) (contents c.write_padded.new.writer) _ (padded (bytes_in c.byte_slice.result)) rest _
    c.loop-i.invariant
    (pieces_rest padded slices c.loop-i.i (omega (arith, c.slice_count-i-end.ensures)) ∙ ap (λ s. padded s ++ rest) (sym c.byte_slice.ensures))
    c.in_ok-write_padded.ensures.ok
