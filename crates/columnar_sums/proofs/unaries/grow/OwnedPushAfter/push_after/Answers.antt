use Rattle.std.proofs.Common.{◌≡◌, ◌+◌, ◌-◌, ◌<◌, ◌≤◌, ◌^◌, ◌∙◌, ◌∷◌, [], sym, ℕ, List, length, arith}
use Rattle.std.proofs.lemmas.Result.{on_ok_weaker}
use Rattle.columnar_core.specs.WordViews.{le_bytes}
use Rattle.columnar_bits.specs.BoolColumns.{bits_in}
use Rattle.columnar_sums.specs.RankLaws.{ranks_parts}
use Rattle.columnar_sums.specs.RankChangeLaws.{length-truths_rows}
use Rattle.columnar_sums.specs.UnaryChangeLaws.{last_end, last_is_end, run_took, run_misplaced, run_too_long}
use Rattle.columnar_sums.specs.Rooms.{held_top}
use Rattle.columnar_sums.specs.UnaryRoomLaws.{offset_full, offset_left}
use Rattle.columnar_sums.specs.UnaryColumns.{owned_unaries}
use Rattle.columnar_core.specs.Elements.{word_row}
use Rattle.columnar_sums.proofs.unaries.grow.OwnedPushAfter.push_after.Goals as goal

pub returns-then-offset-last-clause-err : goal.returns-then-offset-last-clause-err
returns-then-offset-last-clause-err c =
    let x : List ℕ = le_bytes c.args.self.now.bits.counts.items in
    let a : List ℕ = le_bytes c.args.self.now.bits.values.values.items in
    let b : List ℕ = le_bytes c.args.self.now.bits.values.tail in
    let t : last_end a b ≡ c.args.last = sym (last_is_end x a b c.requires.sound) ∙ c.requires.last in
    run_misplaced {c = x} {a = a} {b = b} c.args.offset c.requires.sound (omega (arith, c.if-offset-last.true, t)) (omega arith)

pub returns-then-run-len-clause-err : goal.returns-then-run-len-clause-err
returns-then-run-len-clause-err c =
    let x : List ℕ = le_bytes c.args.self.now.bits.counts.items in
    let a : List ℕ = le_bytes c.args.self.now.bits.values.values.items in
    let b : List ℕ = le_bytes c.args.self.now.bits.values.tail in
    let e : c.len-len.result ≡ length (bits_in a b) = omega (arith, c.len-len.ensures, length-truths_rows a b) in
    let t : last_end a b ≡ c.args.last = sym (last_is_end x a b c.requires.sound) ∙ c.requires.last in
    run_too_long {c = x} {a = a} {b = b} c.args.offset (c.args.offset - c.args.last) c.requires.sound (omega (arith, c.if-offset-last.false, t)) (omega (arith, t)) (omega arith) (omega (arith, c.if-run-len.true, c.if-offset-last.false, e))

pub returns-clause-ok : goal.returns-clause-ok
returns-clause-ok c =
    let x : List ℕ = le_bytes c.args.self.now.bits.counts.items in
    let a : List ℕ = le_bytes c.args.self.now.bits.values.values.items in
    let b : List ℕ = le_bytes c.args.self.now.bits.values.tail in
    let t : last_end a b ≡ c.args.last = sym (last_is_end x a b c.requires.sound) ∙ c.requires.last in
    on_ok_weaker c.push_run.result (λ h. run_took {c = x} {a = a} {b = b} c.args.offset (c.args.offset - c.args.last) c.requires.sound (omega (arith, c.if-offset-last.false, t)) (omega (arith, t)) (omega arith) (record { sound = ranks_parts c.push_run.ensures.sound; bits = h })) c.push_run.ensures.ok

pub returns-clause-wanted : goal.returns-clause-wanted
returns-clause-wanted c = offset_full {c = owned_unaries c.args.self.now} (held_top c.args.self.now.bits) c.args.offset c.args.last c.push_run.result c.requires.sound c.requires.last (omega (arith, c.if-offset-last.false)) (omega arith) c.push_run.ensures.wanted

pub returns-clause-left : goal.returns-clause-left
returns-clause-left c = offset_left (owned_unaries c.args.self.now) (owned_unaries (record { bits = c.push_run.new.bits })) (held_top c.args.self.now.bits) (held_top c.push_run.new.bits) (word_row c.args.offset ∷ []) c.push_run.result (returns-clause-ok c) c.push_run.ensures.capacity
