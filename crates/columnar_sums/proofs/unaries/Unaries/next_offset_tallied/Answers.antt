use Rattle.std.proofs.Common.{◌+◌, ◌<◌, ◌≤◌, ◌^◌, ◌≡◌, ◌-◌, arith}
use Rattle.columnar_sums.specs.UnaryChangeLaws.{place_after, place_fits, row_after, none_after}
use Rattle.columnar_sums.proofs.unaries.Unaries.next_offset_tallied.Goals as goal

pub overflow_add-before : goal.overflow_add-before
overflow_add-before g c =
    let x = g.CC.Words.bytes c.args.self.now.bits.counts in
    let a = g.VC.Words.bytes c.args.self.now.bits.values.values in
    let b = g.WC.Words.bytes c.args.self.now.bits.values.tail in
    omega (arith, place_after x a b c.args.index c.args.before (omega (arith, c.requires.in_range)) c.requires.before, (place_fits c.args.index c.requires.sound).1)

pub next_true_tallied-requires-clause-in_range : goal.next_true_tallied-requires-clause-in_range
next_true_tallied-requires-clause-in_range g c =
    let x = g.CC.Words.bytes c.args.self.now.bits.counts in
    let a = g.VC.Words.bytes c.args.self.now.bits.values.values in
    let b = g.WC.Words.bytes c.args.self.now.bits.values.tail in
    omega (arith, place_after x a b c.args.index c.args.before (omega (arith, c.requires.in_range)) c.requires.before, (place_fits c.args.index c.requires.sound).0)

pub unreachable-requires : goal.unreachable-requires
unreachable-requires g c = none_after (g.CC.Words.bytes c.args.self.now.bits.counts) (g.VC.Words.bytes c.args.self.now.bits.values.values) (g.WC.Words.bytes c.args.self.now.bits.values.tail) c.args.index c.args.before c.requires.in_range c.requires.before c.in-None.ensures.none

pub overflow_sub-result : goal.overflow_sub-result
overflow_sub-result g c = (row_after (g.CC.Words.bytes c.args.self.now.bits.counts) (g.VC.Words.bytes c.args.self.now.bits.values.values) (g.WC.Words.bytes c.args.self.now.bits.values.tail) c.args.index c.args.before c.in-Some.place c.requires.in_range c.requires.before c.in-Some.ensures.found.0 c.in-Some.ensures.found.1).1

pub returns-clause-row : goal.returns-clause-row
returns-clause-row g c = (row_after (g.CC.Words.bytes c.args.self.now.bits.counts) (g.VC.Words.bytes c.args.self.now.bits.values.values) (g.WC.Words.bytes c.args.self.now.bits.values.tail) c.args.index c.args.before c.in-Some.place c.requires.in_range c.requires.before c.in-Some.ensures.found.0 c.in-Some.ensures.found.1).0

pub returns-clause-loads : goal.returns-clause-loads
returns-clause-loads g c =
    let r = (row_after (g.CC.Words.bytes c.args.self.now.bits.counts) (g.VC.Words.bytes c.args.self.now.bits.values.values) (g.WC.Words.bytes c.args.self.now.bits.values.tail) c.args.index c.args.before c.in-Some.place c.requires.in_range c.requires.before c.in-Some.ensures.found.0 c.in-Some.ensures.found.1).1 in
    let e : c.in-Some.place - c.args.index + c.args.index ≡ c.in-Some.place = omega (arith, r) in
    rw e c.in-Some.ensures.loads

pub returns-clause-turns : goal.returns-clause-turns
returns-clause-turns g c =
    let r = (row_after (g.CC.Words.bytes c.args.self.now.bits.counts) (g.VC.Words.bytes c.args.self.now.bits.values.values) (g.WC.Words.bytes c.args.self.now.bits.values.tail) c.args.index c.args.before c.in-Some.place c.requires.in_range c.requires.before c.in-Some.ensures.found.0 c.in-Some.ensures.found.1).1 in
    let e : c.in-Some.place - c.args.index + c.args.index ≡ c.in-Some.place = omega (arith, r) in
    rw e c.in-Some.ensures.turns
