use Rattle.std.proofs.Common.{rules}
use Rattle.columnar_bytes.specs.States.{state_of}
use Rattle.columnar_bytes.specs.MachineLaws.{run_more}
use Rattle.columnar_bytes.specs.StashLaws.{stash_held}
use Rattle.columnar_bytes.proofs.stash.commands.run.Goals as goal

pub loop-i-preserved : goal.loop-i-preserved
loop-i-preserved g c = record {
  sound = c.apply-reply.ensures.sound;
  ran = run_more g.C.Column.format g.T.Item.meaning (g.V.Column.format.rows (g.V.Column.content c.args.source)) (state_of c.args.stash) (state_of c.loop-i.stash) (state_of c.apply-reply.new.self) c.args.commands.now c.loop-i.replies.items c.push.new.self.items c.loop-i.i c.index-commands-i.result c.apply-reply.result c.loop-i-test.true c.index-commands-i.is c.loop-i.invariant.ran (stash_held g.met.C.Stored.storable c.apply-reply.new.self c.apply-reply.ensures.sound) c.apply-reply.ensures.answer c.in-Ok-push.ensures.items;
  count = search rules;
  room = search rules;
}
