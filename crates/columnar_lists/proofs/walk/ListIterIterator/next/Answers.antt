use Rattle.std.proofs.Common.{ap, arith, length}
use Rattle.columnar_lists.specs.ListLaws.{lists_parts, piece_sound}
use Rattle.columnar_lists.specs.WalkLaws.{list_next, lists_over}
use Rattle.columnar_lists.proofs.walk.ListIterIterator.next.Goals as goal

pub next-requires-clause-sound : goal.next-requires-clause-sound
next-requires-clause-sound g c = (lists_parts g.W.Column.format g.V.Column.format c.args.self.now.sound).bounds

pub returns-in_default-clause-steps : goal.returns-in_default-clause-steps
returns-in_default-clause-steps g c =
    let over = lists_over g.W.Column.format g.V.Column.format (g.W.Column.content c.args.self.now.bounds) (g.V.Column.content c.args.self.now.values) in
    ((over c.args.self.now.ranges.index c.in_default.ensures.none.0, over c.next.new.self.index (rw c.in_default.ensures.none.1 c.in_default.ensures.none.0)), tt)

pub invariant_of-result : goal.invariant_of-result
invariant_of-result g c = record { sound = piece_sound g.W.Column.format g.V.Column.format c.args.self.now.ranges.index c.args.self.now.sound c.in-Some.ensures.lower c.in-Some.ensures.upper }

pub returns-clause-steps : goal.returns-clause-steps
returns-clause-steps g c = (
  list_next g.W.Column.format g.V.Column.format (g.W.Column.content c.args.self.now.bounds) (g.V.Column.content c.args.self.now.values) c.args.self.now.ranges.index c.next.new.self.index c.in-Some.lower c.in-Some.upper c.in-Some.ensures.lower c.in-Some.ensures.upper c.in-Some.ensures.onward,
  piece_sound g.W.Column.format g.V.Column.format c.args.self.now.ranges.index c.args.self.now.sound c.in-Some.ensures.lower c.in-Some.ensures.upper,
)

pub returns-clause-goes : goal.returns-clause-goes
returns-clause-goes g c =
    let e = ap length (list_next g.W.Column.format g.V.Column.format (g.W.Column.content c.args.self.now.bounds) (g.V.Column.content c.args.self.now.values) c.args.self.now.ranges.index c.next.new.self.index c.in-Some.lower c.in-Some.upper c.in-Some.ensures.lower c.in-Some.ensures.upper c.in-Some.ensures.onward) in
    record { on = λ f. (tt, tt, omega (arith, e)); keeps = tt; rests = λ f. tt }
