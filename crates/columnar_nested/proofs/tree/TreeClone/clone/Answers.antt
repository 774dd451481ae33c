use Rattle.std.proofs.Common.{◌≡◌, ◌+◌, ◌∙◌, ap, arith, length, length-append, [], ◌∷◌}
use Rattle.columnar_nested.specs.Weights.{total, uncopied}
use Rattle.columnar_nested.specs.WeightLaws.{total-push, down_fewer, up_fewer}
use Rattle.columnar_nested.specs.declared.tree.Tree.TheViews.{out-Tree}
use Rattle.columnar_nested.proofs.tree.TreeClone.clone.Goals as goal

pub loop-kid-smaller-then-done-len : goal.loop-kid-smaller-then-done-len
loop-kid-smaller-then-done-len g c =
    let n : c.len-done.result ≡ length (out-Tree g.row.T.Denot c.loop-kid.copy).kids.items = c.len-done.ensures ∙ (out-Tree g.row.T.Denot c.loop-kid.copy).kids.ok.0 in
    let k : c.len.result ≡ length (out-Tree g.row.T.Denot c.loop-kid.source.now).kids.items = c.len.ensures ∙ (out-Tree g.row.T.Denot c.loop-kid.source.now).kids.ok.0 in
    down_fewer g.row.T.Denot (out-Tree g.row.T.Denot c.loop-kid.source.now).kids.items (length (out-Tree g.row.T.Denot c.loop-kid.copy).kids.items) c.index-kid.result.now (out-Tree g.row.T.Denot c.in_ok-fresh.fresh).kids.items
    (total (λ p. uncopied (out-Tree g.row.T.Denot p.0.now).kids.items (length (out-Tree g.row.T.Denot p.1).kids.items + 1)) c.loop-kid.above.items) (total (λ p. uncopied (out-Tree g.row.T.Denot p.0.now).kids.items (length (out-Tree g.row.T.Denot p.1).kids.items + 1)) c.push.new.self.items) (length c.loop-kid.above.items) (length c.push.new.self.items)
    (omega (arith, n, k, c.if-done-len.true)) (rw n at c.index-kid.ensures) c.in_ok-fresh.ensures
    (ap (total (λ p. uncopied (out-Tree g.row.T.Denot p.0.now).kids.items (length (out-Tree g.row.T.Denot p.1).kids.items + 1))) c.in_ok-push.ensures.items ∙ total-push (λ p. uncopied (out-Tree g.row.T.Denot p.0.now).kids.items (length (out-Tree g.row.T.Denot p.1).kids.items + 1)) c.loop-kid.above.items (c.loop-kid.source, c.loop-kid.copy))
    (ap length c.in_ok-push.ensures.items ∙ length-append c.loop-kid.above.items ((c.loop-kid.source, c.loop-kid.copy) ∷ []))

pub loop-kid-smaller : goal.loop-kid-smaller
loop-kid-smaller g c =
    up_fewer g.row.T.Denot (out-Tree g.row.T.Denot c.loop-kid.source.now).kids.items (out-Tree g.row.T.Denot c.in-Some.parent.now).kids.items (out-Tree g.row.T.Denot c.in_ok-copy-2.copy).kids.items (length (out-Tree g.row.T.Denot c.loop-kid.copy).kids.items) (length (out-Tree g.row.T.Denot c.in-Some.upper).kids.items)
    (total (λ p. uncopied (out-Tree g.row.T.Denot p.0.now).kids.items (length (out-Tree g.row.T.Denot p.1).kids.items + 1)) c.loop-kid.above.items) (total (λ p. uncopied (out-Tree g.row.T.Denot p.0.now).kids.items (length (out-Tree g.row.T.Denot p.1).kids.items + 1)) c.pop.new.self.items) (length c.loop-kid.above.items) (length c.pop.new.self.items)
    c.in_ok-copy-2.ensures
    (ap (total (λ p. uncopied (out-Tree g.row.T.Denot p.0.now).kids.items (length (out-Tree g.row.T.Denot p.1).kids.items + 1))) c.in-Some.ensures.items ∙ total-push (λ p. uncopied (out-Tree g.row.T.Denot p.0.now).kids.items (length (out-Tree g.row.T.Denot p.1).kids.items + 1)) c.pop.new.self.items (c.in-Some.parent, c.in-Some.upper))
    (ap length c.in-Some.ensures.items ∙ length-append c.pop.new.self.items ((c.in-Some.parent, c.in-Some.upper) ∷ []))
