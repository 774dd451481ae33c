use Rattle.std.proofs.Common.{◌∙◌, ap, arith}
use Rattle.std.specs.Prelude.{slice_set}
use Rattle.columnar_nested.specs.PushedLaws.{groups_there, bounds_there, set_first, none_sound, none_rows}
use Rattle.columnar_nested.proofs.trees.grow.Trees+TC+Vec+u64.clear.Goals as goal

pub index_mut-requires : goal.index_mut-requires
index_mut-requires g c =
    let t = groups_there g.TC.Column.format c.args.self.now.groups.items c.args.self.now.bounds.items (g.TC.Column.content c.args.self.now.values) c.requires in
    omega (arith, t, c.truncate.ensures.len, c.args.self.now.groups.ok.0)

pub index_mut-requires-2 : goal.index_mut-requires-2
index_mut-requires-2 g c =
    let t = bounds_there g.TC.Column.format c.args.self.now.groups.items c.args.self.now.bounds.items (g.TC.Column.content c.args.self.now.values) c.requires in
    omega (arith, t, c.truncate-2.ensures.len, c.args.self.now.bounds.ok.0)

pub returns-clause-groups : goal.returns-clause-groups
returns-clause-groups g c = ap (λ xs. slice_set xs 0 0) c.truncate.ensures.items ∙ set_first c.args.self.now.groups.items (groups_there g.TC.Column.format c.args.self.now.groups.items c.args.self.now.bounds.items (g.TC.Column.content c.args.self.now.values) c.requires)

pub returns-clause-bounds : goal.returns-clause-bounds
returns-clause-bounds g c = ap (λ xs. slice_set xs 0 0) c.truncate-2.ensures.items ∙ set_first c.args.self.now.bounds.items (bounds_there g.TC.Column.format c.args.self.now.groups.items c.args.self.now.bounds.items (g.TC.Column.content c.args.self.now.values) c.requires)

pub returns-clause-sound : goal.returns-clause-sound
returns-clause-sound g c =
    none_sound g.TC.Column.format (slice_set c.truncate.new.self.items 0 0) (slice_set c.truncate-2.new.self.items 0 0) (g.TC.Column.content c.clear.new.self)
    (ap (λ xs. slice_set xs 0 0) c.truncate.ensures.items ∙ set_first c.args.self.now.groups.items (groups_there g.TC.Column.format c.args.self.now.groups.items c.args.self.now.bounds.items (g.TC.Column.content c.args.self.now.values) c.requires))
    (ap (λ xs. slice_set xs 0 0) c.truncate-2.ensures.items ∙ set_first c.args.self.now.bounds.items (bounds_there g.TC.Column.format c.args.self.now.groups.items c.args.self.now.bounds.items (g.TC.Column.content c.args.self.now.values) c.requires))
    c.clear.ensures.sound c.clear.ensures.rows

pub returns-clause-rows : goal.returns-clause-rows
returns-clause-rows g c =
    none_rows g.TC.Column.format (slice_set c.truncate.new.self.items 0 0) (slice_set c.truncate-2.new.self.items 0 0) (g.TC.Column.content c.clear.new.self)
    (ap (λ xs. slice_set xs 0 0) c.truncate-2.ensures.items ∙ set_first c.args.self.now.bounds.items (bounds_there g.TC.Column.format c.args.self.now.groups.items c.args.self.now.bounds.items (g.TC.Column.content c.args.self.now.values) c.requires))
