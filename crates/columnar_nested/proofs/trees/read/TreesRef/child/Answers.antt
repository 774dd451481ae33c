use Rattle.std.proofs.Common.{arith, ◌∙◌}
use Rattle.columnar_base.specs.WordViews.{words_in}
use Rattle.columnar_nested.specs.Refs.{node_at}
use Rattle.columnar_nested.specs.RefLaws.{kid_facts, kid_in_range, seen_kids}
use Rattle.columnar_nested.specs.TreeRowLaws.{length-kids, kid_row}
use Rattle.columnar_nested.proofs.trees.read.TreesRef.child.Goals as goal

pub overflow_add-child : goal.overflow_add-child
overflow_add-child g c =
    let vs = g.V.Column.format.rows (g.V.Column.content c.args.self.now.values) in
    let l = length-kids (node_at (words_in (g.B.NodeBounds.bytes c.args.self.now.bounds)) vs c.args.self.now.index) in
    let u = seen_kids vs c.requires.valid.stands in
    let r = c.requires.in_range in
    omega (arith, l, u, r)

pub bound-requires : goal.bound-requires
bound-requires g c =
    let k = kid_facts (g.V.Column.format.rows (g.V.Column.content c.args.self.now.values)) c.args.index c.requires.valid.stands (kid_in_range (words_in (g.B.NodeBounds.bytes c.args.self.now.bounds)) (g.V.Column.format.rows (g.V.Column.content c.args.self.now.values)) c.args.self.now.index c.requires.in_range) in
    let b = k.bound_in in
    omega (arith, b)

pub overflow_add-child-2 : goal.overflow_add-child-2
overflow_add-child-2 g c =
    let vs = g.V.Column.format.rows (g.V.Column.content c.args.self.now.values) in
    let l = length-kids (node_at (words_in (g.B.NodeBounds.bytes c.args.self.now.bounds)) vs c.args.self.now.index) in
    let u = seen_kids vs c.requires.valid.stands in
    let r = c.requires.in_range in
    omega (arith, l, u, r)

pub bound-requires-2 : goal.bound-requires-2
bound-requires-2 g c = (kid_facts (g.V.Column.format.rows (g.V.Column.content c.args.self.now.values)) c.args.index c.requires.valid.stands (kid_in_range (words_in (g.B.NodeBounds.bytes c.args.self.now.bounds)) (g.V.Column.format.rows (g.V.Column.content c.args.self.now.values)) c.args.self.now.index c.requires.in_range)).bound_in

pub returns-clause-kid : goal.returns-clause-kid
returns-clause-kid g c =
    let k = kid_facts (g.V.Column.format.rows (g.V.Column.content c.args.self.now.values)) c.args.index c.requires.valid.stands (kid_in_range (words_in (g.B.NodeBounds.bytes c.args.self.now.bounds)) (g.V.Column.format.rows (g.V.Column.content c.args.self.now.values)) c.args.self.now.index c.requires.in_range) in
    kid_row (node_at (words_in (g.B.NodeBounds.bytes c.args.self.now.bounds)) (g.V.Column.format.rows (g.V.Column.content c.args.self.now.values)) c.args.self.now.index) c.args.index k.kid_at

pub returns-clause-valid : goal.returns-clause-valid
returns-clause-valid g c =
    let k = kid_facts (g.V.Column.format.rows (g.V.Column.content c.args.self.now.values)) c.args.index c.requires.valid.stands (kid_in_range (words_in (g.B.NodeBounds.bytes c.args.self.now.bounds)) (g.V.Column.format.rows (g.V.Column.content c.args.self.now.values)) c.args.self.now.index c.requires.in_range) in
    record { sound = c.requires.valid.sound; stands = rw (c.bound.ensures, c.bound-2.ensures) k.ref }
