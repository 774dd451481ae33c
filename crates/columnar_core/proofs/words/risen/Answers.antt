use Rattle.std.proofs.Common.{◌≡◌, ℕ, ◌+◌, ◌&&◌, ◌∙◌, ap, arith, drop, refl, sym, Bool, true, false}
use Rattle.columnar_core.specs.Bounds.{rises, numbers}
use Rattle.columnar_core.specs.BoundLaws.{rises_falls, rises_on}
use Rattle.columnar_core.proofs.words.risen.Goals as goal
use Rattle.columnar_core.proofs.words.risen.Goals.{then-next-last, else-next-last}

and_no : (a b : Bool) → false ≡ b → (a && b) ≡ false
and_no true b e = sym e
and_no false b e = refl

pub loop-i-preserved : goal.loop-i-preserved
loop-i-preserved g c =
    let rs = g.C.Column.format.rows (g.C.Column.content c.args.column.now) in
    let n : ℕ = c.get-next.result in
    let at : ℕ = c.args.from + c.loop-i.i in
    let more : at + 1 ≡ c.args.from + (c.loop-i.i + 1) = omega arith in
    record {
      value = λ e.
          elim c.if-next-last.branch [
            | then-next-last w ↦ rw w.rising-is (c.loop-i.invariant.value e ∙ and_no c.loop-i.rising _ (rises_falls rs at c.loop-i.last n e _ refl c.get-next.ensures.row (omega arith) w.if-next-last.true))
            | else-next-last w ↦ rw w.rising-is (c.loop-i.invariant.value e ∙ ap (λ (x : Bool). c.loop-i.rising && x) (rises_on rs at c.loop-i.last n e _ refl c.get-next.ensures.row (omega arith) w.if-next-last.false ∙ ap (λ (k : ℕ). rises n (drop k (numbers rs)) e) more))
          ];
      turns = omega (arith, c.tick.ensures.turns, c.loop-i.invariant.turns);
    }
