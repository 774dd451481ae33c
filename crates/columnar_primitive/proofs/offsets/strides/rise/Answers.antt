use Rattle.std.proofs.Common.{◌≡◌, length, arith}
use Rattle.std.proofs.Common.{◌/◌}
use Rattle.columnar_primitive.specs.StrideLaws.{bounds_fall, bounds_on, bounds_done}
use Rattle.columnar_primitive.proofs.offsets.strides.rise.Goals as goal

pub returns-then-next-last-clause-value : goal.returns-then-next-last-clause-value
returns-then-next-last-clause-value g c = bounds_fall (g.BC.Words.bytes c.args.bounds.now) c.loop-i.i c.loop-i.last c.args.«end» _ c.loop-i.invariant.0 (omega (arith, c.size-i-end.ensures)) (omega (arith, c.word-next.ensures, c.if-next-last.true))

pub loop-i-preserved : goal.loop-i-preserved
loop-i-preserved g c = (
  rw c.word-next.ensures (bounds_on (g.BC.Words.bytes c.args.bounds.now) c.loop-i.i c.loop-i.last c.args.«end» _ c.loop-i.invariant.0 (omega (arith, c.size-i-end.ensures)) (omega (arith, c.word-next.ensures, c.if-next-last.false))),
  omega (arith, c.loop-i.invariant.1, c.tick.ensures.turns),
)

pub returns-clause-value : goal.returns-clause-value
returns-clause-value g c =
    let e : c.loop-i.i ≡ length (g.BC.Words.bytes c.args.bounds.now) / 8 = omega (arith, c.size-i-end.ensures) in
    bounds_done (g.BC.Words.bytes c.args.bounds.now) c.loop-i.last c.args.«end» _ (rw e at c.loop-i.invariant.0)
