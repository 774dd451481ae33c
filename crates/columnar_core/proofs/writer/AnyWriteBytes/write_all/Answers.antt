use Rattle.std.proofs.Common.{◌++◌, ap, sym, ◌∙◌, take}
use Rattle.std.proofs.lemmas.List.{take_rest, take-append-drop}
use Rattle.columnar_core.specs.SentLaws.{sent_more}
use Rattle.columnar_core.proofs.writer.AnyWriteBytes.write_all.Goals as goal

pub loop-rest-preserved : goal.loop-rest-preserved
loop-rest-preserved g c =
    let rest = c.loop-rest.rest.now in
    let count = c.in_ok-count.count in
    sent_more (g.W.Write.contents c.args.self.now) (g.W.Write.contents c.loop-rest.self) (g.W.Write.contents c.write.new.self)
    rest (take count rest) _ c.args.bytes.now c.loop-rest.invariant
    (sym (take-append-drop count rest) ∙ ap (λ t. take count rest ++ t) (sym (take_rest rest count))) c.in_ok-count.ensures.bytes
