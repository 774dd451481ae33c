use Rattle.std.proofs.Common.{arith, length, ◌∙◌, ap, ◌+◌, ◌<◌}
use Rattle.columnar_base.specs.Format.{slice}
use Rattle.columnar_base.specs.WordViews.{words_in}
use Rattle.columnar_nested.specs.TreesLaws.{tree_facts, tree_read, tree_values, root_ref, root_next}
use Rattle.columnar_nested.proofs.trees.read.root_of.Goals as goal

pub bound-root-requires : goal.bound-root-requires
bound-root-requires g c = (tree_facts g.V.Column.format (slice (g.G.NodeBounds.bytes c.args.groups.now)) (slice (g.B.NodeBounds.bytes c.args.bounds)) (g.V.Column.content c.args.values) c.args.index c.requires.sound c.requires.in_range).group_in

pub overflow_add-result : goal.overflow_add-result
overflow_add-result g c =
    let n = c.word_count-count.ensures.count ∙ ap (λ bs. length (words_in bs)) c.words.ensures in
    let l : c.bound-root.result + 1 < c.word_count-count.result = root_next g.V.Column.format (slice (g.G.NodeBounds.bytes c.args.groups.now)) (slice (g.B.NodeBounds.bytes c.args.bounds)) (g.V.Column.content c.args.values) c.args.index c.requires.sound c.requires.in_range c.bound-root.ensures n in
    omega (arith, l, c.word_count-count.ensures.short)

pub overflow_add-root : goal.overflow_add-root
overflow_add-root g c =
    let n = c.word_count-count.ensures.count ∙ ap (λ bs. length (words_in bs)) c.words.ensures in
    let l : c.bound-root.result + 1 < c.word_count-count.result = root_next g.V.Column.format (slice (g.G.NodeBounds.bytes c.args.groups.now)) (slice (g.B.NodeBounds.bytes c.args.bounds)) (g.V.Column.content c.args.values) c.args.index c.requires.sound c.requires.in_range c.bound-root.ensures n in
    omega (arith, l, c.word_count-count.ensures.short)

pub bound-requires : goal.bound-requires
bound-requires g c =
    let f = (tree_facts g.V.Column.format (slice (g.G.NodeBounds.bytes c.args.groups.now)) (slice (g.B.NodeBounds.bytes c.args.bounds)) (g.V.Column.content c.args.values) c.args.index c.requires.sound c.requires.in_range).bound_in in
    rw c.bound-root.ensures f

pub returns-clause-tree : goal.returns-clause-tree
returns-clause-tree g c =
    let f = tree_read g.V.Column.format (slice (g.G.NodeBounds.bytes c.args.groups.now)) (slice (g.B.NodeBounds.bytes c.args.bounds)) (g.V.Column.content c.args.values) c.args.index c.requires.sound c.requires.in_range in
    rw c.bound-root.ensures f

pub returns-clause-valid : goal.returns-clause-valid
returns-clause-valid g c =
    let f = tree_facts g.V.Column.format (slice (g.G.NodeBounds.bytes c.args.groups.now)) (slice (g.B.NodeBounds.bytes c.args.bounds)) (g.V.Column.content c.args.values) c.args.index c.requires.sound c.requires.in_range in
    record { sound = (tree_values g.V.Column.format (slice (g.G.NodeBounds.bytes c.args.groups.now)) (slice (g.B.NodeBounds.bytes c.args.bounds)) (g.V.Column.content c.args.values) c.requires.sound); stands = root_ref f.own f.ref c.bound-root.ensures c.bound.ensures }
