use Rattle.std.proofs.Common.{[], refl, sym}
use Rattle.columnar_core.specs.Format.{slices_of}
use Rattle.std.specs.List.{flat_map}
use Rattle.std.proofs.lemmas.List.{append-nil}
use Rattle.std.proofs.lemmas.Result.{on_err_weaker}
use Rattle.columnar_core.specs.Bytes.{le_bytes}
use Rattle.columnar_core.specs.Words.{table_words, padded, store_bytes}
use Rattle.columnar_core.specs.Sent.{WentOut, AppendsBeginning}
use Rattle.columnar_core.specs.SentLaws.{sent_part, sent_none}
use Rattle.columnar_core.specs.ChangeLaws.{passed_on}
use Rattle.columnar_bytes.proofs.indexed.writing.write_all_slices.Goals as goal

pub returns-clause-err : goal.returns-clause-err
returns-clause-err g c =
    let slices = slices_of (g.S.Column.content c.args.item.now) in
    let before = g.W.WriteBytes.contents c.args.writer.now in
    let mid = g.W.WriteBytes.contents c.write_table.new.writer in
    let new = g.W.WriteBytes.contents c.write_slices.new.writer in
    let pieces = flat_map padded slices in
    let w : WentOut before mid pieces (store_bytes slices) = record { front = le_bytes (table_words slices); split = refl; appended = c.in_ok-write_table.ensures.ok } in
    on_err_weaker c.write_slices.result (λ (p : AppendsBeginning mid new pieces). sent_part before mid new pieces pieces [] (store_bytes slices) w (sym (append-nil pieces)) p) c.write_slices.ensures.err

pub returns-in_err-write_table-clause-err : goal.returns-in_err-write_table-clause-err
returns-in_err-write_table-clause-err g c =
    let slices = slices_of (g.S.Column.content c.args.item.now) in
    let before = g.W.WriteBytes.contents c.args.writer.now in
    rw (passed_on c.from_residual.result c.from_residual.ensures.1) (sent_part before before (g.W.WriteBytes.contents c.write_table.new.writer) (store_bytes slices) (le_bytes (table_words slices)) (flat_map padded slices) (store_bytes slices) (sent_none before (store_bytes slices)) refl c.in_err-write_table.ensures.err)
