use Rattle.std.proofs.Common.{◌∙◌, ap, take}
use Rattle.columnar_base.specs.Format.{slice}
use Rattle.columnar_base.specs.WordViews.{le_bytes}
use Rattle.columnar_nested.specs.TreesLaws.{tree_values}
use Rattle.columnar_nested.specs.PushedLaws.{tree_pushed, tree_refused}
use Rattle.columnar_nested.proofs.trees.grow.Trees+TC+Vec+u64.push_tree.Goals as goal
use Rattle.columnar_nested.proofs.trees.grow.Trees+TC+Vec+u64.push_tree.Goals.{in-Ok+in-Err-push, in-Err}

pub len-values-requires : goal.len-values-requires
len-values-requires g c = tree_values g.TC.Column.format (slice (le_bytes c.args.self.now.groups.items)) (slice (le_bytes c.args.self.now.bounds.items)) (g.TC.Column.content c.args.self.now.values) c.requires.sound

pub lay-requires-clause-sound : goal.lay-requires-clause-sound
lay-requires-clause-sound g c = tree_values g.TC.Column.format (slice (le_bytes c.args.self.now.groups.items)) (slice (le_bytes c.args.self.now.bounds.items)) (g.TC.Column.content c.args.self.now.values) c.requires.sound

pub returns-in-Ok-push-clause-ok : goal.returns-in-Ok-push-clause-ok
returns-in-Ok-push-clause-ok g c =
    tree_pushed g.T.Item.meaning g.TC.Column.format c.args.self.now.groups.items c.args.self.now.bounds.items c.push.new.self.items c.lay.new.bounds.items c.args.tree c.len.result c.requires.sound c.in-Ok.ensures.values c.in-Ok.ensures.bounds c.in-Ok-push.ensures.items c.len.ensures c.len.type_inv

pub returns-clause-err : goal.returns-clause-err
returns-clause-err g c =
    elim c.match-lay.branch [
      | in-Ok+in-Err-push w ↦
          tree_refused g.T.Item.meaning g.TC.Column.format c.args.self.now.groups.items c.args.self.now.bounds.items c.lay.new.bounds.items c.args.tree c.match-lay.laid g.met.TC.Truncate.lawful c.requires.sound
          c.lay.ensures.begun c.lay.ensures.kept (ap (λ s. s.groups.items) w.self-is ∙ w.in-Err-push.ensures.items) (c.truncate.ensures.items ∙ ap (λ s. take c.len-bounds.result s.bounds.items) w.self-is)
          (c.len-bounds.ensures ∙ c.args.self.now.bounds.ok.0) (rw w.self-is at c.truncate-2.ensures.cut) c.len-values.ensures (rw w.laid-is tt)
      | in-Err w ↦
          tree_refused g.T.Item.meaning g.TC.Column.format c.args.self.now.groups.items c.args.self.now.bounds.items c.lay.new.bounds.items c.args.tree c.match-lay.laid g.met.TC.Truncate.lawful c.requires.sound
          c.lay.ensures.begun c.lay.ensures.kept (ap (λ s. s.groups.items) w.self-is) (c.truncate.ensures.items ∙ ap (λ s. take c.len-bounds.result s.bounds.items) w.self-is)
          (c.len-bounds.ensures ∙ c.args.self.now.bounds.ok.0) (rw w.self-is at c.truncate-2.ensures.cut) c.len-values.ensures (rw w.laid-is w.in-Err.ensures.cause)
    ]
