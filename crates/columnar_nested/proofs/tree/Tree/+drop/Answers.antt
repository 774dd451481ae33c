use Rattle.std.proofs.Common.{◌<◌, ◌≤◌, ◌∙◌, ap, arith, [], ◌∷◌, ◌++◌}
use Rattle.columnar_nested.specs.Weights.{count}
use Rattle.columnar_nested.specs.WeightLaws.{kids_lighter, rest_lighter, rest_fewer, first_lighter, queue_fewer, queue_left}
use Rattle.columnar_nested.proofs.tree.Tree.+drop.Goals as goal
use Rattle.columnar_nested.proofs.tree.Tree.+drop.Goals.{in-Err+in_default-pop_front, in_default}

pub loop-kid-init : goal.loop-kid-init
loop-kid-init g t c = kids_lighter g.row.T.Denot c.loop-next.self c.loop-next.waiting.items c.append.new.other.items (c.in-Err.ensures.other_items ∙ c.from_vec-next.ensures.items) c.loop-next.invariant

pub drop-requires : goal.drop-requires
drop-requires g t c κs within = (rw c.decreases at (first_lighter g.row.T.Denot c.in-Some.kid c.pop_front.new.self.items c.loop-kid.next.items c.in-Some.ensures.items c.loop-kid.invariant), within)

pub loop-kid-smaller : goal.loop-kid-smaller
loop-kid-smaller g t c = rest_fewer g.row.T.Denot c.in-Some.kid c.pop_front.new.self.items c.loop-kid.next.items c.in-Some.ensures.items

pub loop-kid-preserved : goal.loop-kid-preserved
loop-kid-preserved g t c = rest_lighter g.row.T.Denot c.in-Some.kid c.pop_front.new.self.items c.loop-kid.next.items c.in-Some.ensures.items c.loop-kid.invariant

pub loop-next-smaller : goal.loop-next-smaller
loop-next-smaller g t c =
    elim c.match-append.branch [
      | in-Err+in_default-pop_front w ↦ queue_left g.row.T.Denot c.loop-next.self c.in-Some-pop_front.node c.loop-next.waiting.items c.append.new.self.items c.pop_front-in-loop-next.new.self.items w.in-Err.ensures.items c.in-Some-pop_front.ensures.items
      | in_default w ↦ queue_fewer g.row.T.Denot c.loop-next.self c.in-Some-pop_front.node c.loop-next.waiting.items c.append.new.self.items c.pop_front-in-loop-next.new.self.items (w.in_default.ensures.items ∙ ap (λ us. c.loop-next.waiting.items ++ us) c.from_vec-next.ensures.items) c.in-Some-pop_front.ensures.items
    ]

pub loop-next-preserved : goal.loop-next-preserved
loop-next-preserved g t c =
    let s : count (c.in-Some-pop_front.node ∷ c.pop_front-in-loop-next.new.self.items) < count (c.loop-next.self ∷ c.loop-next.waiting.items) = loop-next-smaller g t c in
    let i : count (c.loop-next.self ∷ c.loop-next.waiting.items) ≤ count (c.args.self ∷ []) = c.loop-next.invariant in
    let r : count (c.in-Some-pop_front.node ∷ c.pop_front-in-loop-next.new.self.items) ≤ count (c.args.self ∷ []) = omega (arith, s, i) in
    r
