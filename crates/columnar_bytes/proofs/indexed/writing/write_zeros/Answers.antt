use Rattle.std.proofs.Common.{ℕ, List, ◌≡◌, ◌≤◌, take, replicate, arith, subst}
use Rattle.std.specs.Prelude.{OnOk, OnErr}
use Rattle.std.specs.Io.KnownBytes.{Appends}
use Rattle.std.proofs.lemmas.List.{take-replicate}
use Rattle.columnar_core.specs.Sent.{AppendsBeginning}
use Rattle.columnar_bytes.proofs.indexed.writing.write_zeros.Goals as goal

zeros_are : (n : ℕ) → n ≤ 8 → take {A = ℕ} n (replicate 8 0) ≡ replicate n 0
zeros_are n l = take-replicate n 8 0 l

pub returns-clause-ok : goal.returns-clause-ok
returns-clause-ok g c =
    let contents = g.W.WriteBytes.contents in
    subst (λ (t : List ℕ). OnOk c.write_all.result (Appends (contents c.args.writer.now) (contents c.write_all.new.self) t)) (zeros_are c.args.count (omega arith)) c.write_all.ensures.ok

pub returns-clause-err : goal.returns-clause-err
returns-clause-err g c =
    let contents = g.W.WriteBytes.contents in
    subst (λ (t : List ℕ). OnErr c.write_all.result (AppendsBeginning (contents c.args.writer.now) (contents c.write_all.new.self) t)) (zeros_are c.args.count (omega arith)) c.write_all.ensures.err
