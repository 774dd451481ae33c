use Rattle.std.proofs.Common.{ap, arith, length}
use Rattle.std.specs.Int.{to_le_bytes, w8}
use Rattle.columnar_base.specs.Elements.{elements, bytes_format}
use Rattle.columnar_lists.specs.ListLaws.{lists_parts}
use Rattle.columnar_lists.specs.WalkLaws.{lists_over}
use Rattle.columnar_strings.specs.StringLaws.{string_within}
use Rattle.columnar_strings.specs.StringWalkLaws.{string_next}
use Rattle.columnar_strings.proofs.string.walk.StringIterIterator.next.Goals as goal

pub next-requires-clause-sound : goal.next-requires-clause-sound
next-requires-clause-sound g c = (lists_parts g.W.Column.format bytes_format c.args.self.now.sound).bounds

pub elements_between-requires-clause-ordered : goal.elements_between-requires-clause-ordered
elements_between-requires-clause-ordered g c = (string_within g.W.Column.format c.args.self.now.values.now c.args.self.now.ranges.index c.args.self.now.sound c.in-Some.ensures.lower c.in-Some.ensures.upper).0

pub elements_between-requires-clause-in_range : goal.elements_between-requires-clause-in_range
elements_between-requires-clause-in_range g c = (string_within g.W.Column.format c.args.self.now.values.now c.args.self.now.ranges.index c.args.self.now.sound c.in-Some.ensures.lower c.in-Some.ensures.upper).1

pub returns-in_default-clause-steps : goal.returns-in_default-clause-steps
returns-in_default-clause-steps g c =
    let over = lists_over g.W.Column.format bytes_format (g.W.Column.content c.args.self.now.bounds) (elements (to_le_bytes w8) c.args.self.now.values.now) in
    ((over c.args.self.now.ranges.index c.in_default.ensures.none.0, over c.next.new.self.index (rw c.in_default.ensures.none.1 c.in_default.ensures.none.0)), tt)

pub returns-clause-steps : goal.returns-clause-steps
returns-clause-steps g c = (
  rw c.elements_between.ensures (string_next g.W.Column.format (g.W.Column.content c.args.self.now.bounds) c.args.self.now.values.now c.args.self.now.ranges.index c.next.new.self.index c.in-Some.ensures.lower c.in-Some.ensures.upper c.in-Some.ensures.onward),
  tt,
)

pub returns-clause-goes : goal.returns-clause-goes
returns-clause-goes g c =
    let e = ap length (string_next g.W.Column.format (g.W.Column.content c.args.self.now.bounds) c.args.self.now.values.now c.args.self.now.ranges.index c.next.new.self.index c.in-Some.ensures.lower c.in-Some.ensures.upper c.in-Some.ensures.onward) in
    record { on = λ f. (tt, tt, omega (arith, e)); keeps = tt; rests = λ f. tt }
