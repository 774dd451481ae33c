use Rattle.std.proofs.Common.{sym, ◌∙◌}
use Rattle.columnar_bytes.specs.StreamLaws.{one_more, stores_none}
use Rattle.columnar_bytes.proofs.indexed.many.Stores.rest.Goals as goal

pub loop-after-preserved : goal.loop-after-preserved
loop-after-preserved c = sym (one_more c.loop-after.rest.now c.in-Ok.field-0-0.now c.in-Ok.after.now c.in-Ok.ensures.begins c.in-Ok.ensures.parts).1 ∙ c.loop-after.invariant

pub returns : goal.returns
returns c = sym (stores_none c.loop-after.rest.now c.in_default.ensures.none).1 ∙ c.loop-after.invariant
