use Rattle.std.proofs.Common.{length}
use Rattle.columnar_base.specs.Format.{both}
use Rattle.columnar_lists.specs.Lists.{lists_format}
use Rattle.columnar_lists.specs.EachLaws.{each_taken, each_refused, each_leaves, each_full, run_sound}
use Rattle.columnar_lists.proofs.each.EachPushIntoVecs.push_into.Goals as goal

pub returns-clause-ok : goal.returns-clause-ok
returns-clause-ok g c = each_taken g.I.Iterator.next_gives g.I.Item.Item.meaning g.I.Determined.rows g.met.I.Determined.gives c.push_iter.result (lists_format g.BC.Column.format g.TC.Column.format) (both (g.BC.Column.content c.args.column.now.bounds) (g.TC.Column.content c.args.column.now.values)) (both (g.BC.Column.content c.push_iter.new.self.bounds) (g.TC.Column.content c.push_iter.new.self.values)) c.args.self.0 c.push_iter.ensures.ok

pub returns-clause-err : goal.returns-clause-err
returns-clause-err g c = each_refused g.I.Iterator.next_gives g.I.Item.Item.meaning g.I.Determined.rows g.met.I.Determined.gives c.push_iter.result g.BC.Column.format g.TC.Column.format (both (g.BC.Column.content c.push_iter.new.self.bounds) (g.TC.Column.content c.push_iter.new.self.values)) c.args.self.0 g.met.TC.Truncate.lawful c.requires.sound c.push_iter.ensures.err c.push_iter.ensures.cause

pub returns-clause-wanted : goal.returns-clause-wanted
returns-clause-wanted g c = λ k. each_full g.I.Iterator.next_gives g.I.Item.Item.meaning g.I.Determined.rows g.met.I.Determined.gives c.push_iter.result (g.BC.Column.room c.args.column.now.bounds) (g.TC.Column.room c.args.column.now.values) (length (g.TC.Column.format.rows (g.TC.Column.content c.args.column.now.values))) c.args.self.0 (c.push_iter.ensures.wanted k)

pub returns-clause-left : goal.returns-clause-left
returns-clause-left g c = each_leaves g.I.Iterator.next_gives g.I.Item.Item.meaning g.I.Determined.rows g.met.I.Determined.gives c.push_iter.result _ _ _ _ _ c.args.self.0 c.push_iter.ensures.left

pub push_iter-requires-clause-callable : goal.push_iter-requires-clause-callable
push_iter-requires-clause-callable g c = (g.met.I.Determined.ready c.args.self.0 c.requires.valid).0

pub push_iter-requires-clause-finite : goal.push_iter-requires-clause-finite
push_iter-requires-clause-finite g c = (g.met.I.Determined.ready c.args.self.0 c.requires.valid).1

pub push_iter-requires-clause-valid : goal.push_iter-requires-clause-valid
push_iter-requires-clause-valid g c = run_sound g.I.Iterator.next_gives g.I.Item.Item.valid g.I.Determined.sound g.met.I.Determined.keeps c.args.self.0 c.requires.valid
