use Rattle.std.proofs.Common.{ℕ, List, ◌-◌, ◌%◌, [], replicate, length, refl, sym, subst}
use Rattle.std.proofs.lemmas.List.{append-nil}
use Rattle.std.proofs.lemmas.Result.{on_ok_weaker, on_err_weaker}
use Rattle.std.specs.Io.KnownBytes.{Appends}
use Rattle.columnar_core.specs.Bytes.{rounded}
use Rattle.columnar_core.specs.Words.{padded}
use Rattle.columnar_core.specs.WordLaws.{padding_is}
use Rattle.columnar_core.specs.Slices.{bytes_in}
use Rattle.columnar_core.specs.Sent.{WentOut, AppendsBeginning}
use Rattle.columnar_core.specs.SentLaws.{sent_part, sent_none, appends_both}
use Rattle.columnar_core.specs.ChangeLaws.{passed_on}
use Rattle.columnar_bytes.proofs.indexed.writing.write_padded.Goals as goal

pub returns-in_err-write-clause-err : goal.returns-in_err-write-clause-err
returns-in_err-write-clause-err g c =
    let before = g.W.WriteBytes.contents c.args.writer.now in
    let s = bytes_in c.args.slice in
    rw (passed_on c.from_residual.result c.from_residual.ensures.1) (sent_part before before (g.W.WriteBytes.contents c.write.new.writer) (padded s) s (replicate (rounded (length s) - length s) 0) (padded s) (sent_none before (padded s)) refl c.in_err-write.ensures.err)

pub returns-clause-ok : goal.returns-clause-ok
returns-clause-ok g c =
    let contents = g.W.WriteBytes.contents in
    let before = contents c.args.writer.now in
    let mid = contents c.write.new.writer in
    let new = contents c.write_zeros.new.writer in
    let s = bytes_in c.args.slice in
    let zeros : List ℕ = replicate ((8 - c.len.result % 8) % 8) 0 in
    on_ok_weaker c.write_zeros.result (λ (p : Appends mid new zeros).
    subst (λ (t : List ℕ). Appends before new t) (sym (padding_is s c.len.result c.len.ensures)) (appends_both before mid new s zeros c.in_ok-write.ensures.ok p))
    c.write_zeros.ensures.ok

pub returns-clause-err : goal.returns-clause-err
returns-clause-err g c =
    let contents = g.W.WriteBytes.contents in
    let before = contents c.args.writer.now in
    let mid = contents c.write.new.writer in
    let new = contents c.write_zeros.new.writer in
    let s = bytes_in c.args.slice in
    let zeros : List ℕ = replicate ((8 - c.len.result % 8) % 8) 0 in
    let w : WentOut before mid zeros (padded s) = record { front = s; split = padding_is s c.len.result c.len.ensures; appended = c.in_ok-write.ensures.ok } in
    on_err_weaker c.write_zeros.result (λ (p : AppendsBeginning mid new zeros).
    sent_part before mid new zeros zeros [] (padded s) w (sym (append-nil zeros)) p)
    c.write_zeros.ensures.err
