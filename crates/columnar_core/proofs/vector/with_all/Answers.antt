use Rattle.std.proofs.Common.{arith, refl, ◌∙◌}
use Rattle.columnar_core.specs.AppendedLaws.{appended_none, appended_more}
use Rattle.columnar_core.proofs.vector.with_all.Goals as goal

pub loop-i-init : goal.loop-i-init
loop-i-init g c = record {
  read = appended_none g.T.Element.le_bytes c.args.column.items c.args.column.items g.T.Element.size c.args.bytes.now refl;
  grown = omega arith;
  capacity = refl;
  room = omega (arith, c.requires.room);
}

pub loop-i-preserved : goal.loop-i-preserved
loop-i-preserved g c = record {
  read = appended_more g.T.Element.size c.loop-i.i c.element_in.result c.args.bytes.now c.element_in.ensures c.loop-i.invariant.read c.push_reserved.ensures.items;
  grown = omega (arith, c.push_reserved.ensures.len, c.loop-i.invariant.grown);
  capacity = c.push_reserved.ensures.capacity ∙ c.loop-i.invariant.capacity;
  room = omega (arith, c.push_reserved.ensures.len, c.push_reserved.ensures.capacity, c.loop-i.invariant.room);
}
