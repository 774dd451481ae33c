use Rattle.std.proofs.Common.{◌≡◌, ◌+◌, ◌-◌, ◌<◌, ◌≤◌, ◌^◌, length, take, drop, arith, refl}
use Rattle.std.proofs.lemmas.Result.{on_ok_weaker}
use Rattle.columnar_core.specs.WordViews.{view_bytes, le_bytes}
use Rattle.columnar_bits.specs.BoolColumns.{bits_in}
use Rattle.columnar_sums.specs.RankColumns.{owned_ranks}
use Rattle.columnar_sums.specs.RankLaws.{ranks_parts}
use Rattle.columnar_sums.specs.Unary.{upto}
use Rattle.columnar_sums.specs.UnaryListLaws.{upto-mono}
use Rattle.columnar_sums.specs.UnaryChangeLaws.{place_after, place_fits, range_took, range_if_err}
use Rattle.columnar_sums.specs.Rooms.{held_top}
use Rattle.columnar_core.specs.Bounds.{numbers, shifted}
use Rattle.columnar_sums.specs.UnaryColumns.{unaries_format, unaries_content, owned_unaries}
use Rattle.columnar_sums.specs.UnaryRoomLaws.{range_full, range_runs, offset_left}
use Rattle.columnar_sums.proofs.unaries.grow.OwnedExtendShiftedViewed.extend_shifted_tallied.Goals as goal

pub overflow_add-from : goal.overflow_add-from
overflow_add-from g c =
    let x = view_bytes c.args.view.now.bits.counts in
    let a = view_bytes c.args.view.now.bits.values.values in
    let b = view_bytes c.args.view.now.bits.values.tail in
    omega (arith, place_after x a b c.args.range.start c.args.lower (omega (arith, c.requires.ordered, c.requires.in_range)) c.requires.lower, (place_fits c.args.range.start c.requires.view_sound).1)

pub copy_upto-requires-clause-ordered : goal.copy_upto-requires-clause-ordered
copy_upto-requires-clause-ordered g c =
    let x = view_bytes c.args.view.now.bits.counts in
    let a = view_bytes c.args.view.now.bits.values.values in
    let b = view_bytes c.args.view.now.bits.values.tail in
    omega (arith, place_after x a b c.args.range.start c.args.lower (omega (arith, c.requires.ordered, c.requires.in_range)) c.requires.lower, upto-mono (bits_in a b) c.args.range.start c.args.range.«end» c.requires.ordered)

pub returns-clause-ok : goal.returns-clause-ok
returns-clause-ok g c =
    let x = view_bytes c.args.view.now.bits.counts in
    let a = view_bytes c.args.view.now.bits.values.values in
    let b = view_bytes c.args.view.now.bits.values.tail in
    on_ok_weaker c.copy_upto.result (λ h. range_took {c = le_bytes c.args.self.now.bits.counts.items} {a = le_bytes c.args.self.now.bits.values.values.items} {b = le_bytes c.args.self.now.bits.values.tail} x a b c.args.range.start c.args.range.«end» c.args.lower c.args._start (c.args.lower + c.args.range.start) (upto (bits_in a b) c.args.range.«end») c.requires.sound c.requires.ordered c.requires.in_range c.requires.lower c.requires.last refl refl (record { sound = ranks_parts c.copy_upto.ensures.sound; bits = h })) c.copy_upto.ensures.ok

pub returns-clause-err : goal.returns-clause-err
returns-clause-err g c =
    let x = view_bytes c.args.view.now.bits.counts in
    let a = view_bytes c.args.view.now.bits.values.values in
    let b = view_bytes c.args.view.now.bits.values.tail in
    range_if_err {c = le_bytes c.args.self.now.bits.counts.items} {a = le_bytes c.args.self.now.bits.values.values.items} {b = le_bytes c.args.self.now.bits.values.tail} (owned_ranks c.copy_upto.new.bits) x a b c.args.range.start c.args.range.«end» c.args.lower c.args._start (c.args.lower + c.args.range.start) (upto (bits_in a b) c.args.range.«end») c.copy_upto.result c.requires.sound c.requires.ordered c.requires.in_range c.requires.lower c.requires.last refl refl c.copy_upto.ensures.err c.copy_upto.ensures.kinds c.copy_upto.ensures.length

pub returns-clause-wanted : goal.returns-clause-wanted
returns-clause-wanted g c =
    let x = view_bytes c.args.view.now.bits.counts in
    let a = view_bytes c.args.view.now.bits.values.values in
    let b = view_bytes c.args.view.now.bits.values.tail in
    let from = c.args.lower + c.args.range.start in
    let to = upto (bits_in a b) c.args.range.«end» in
    let n = range_runs x a b c.args.range.start c.args.range.«end» c.args.lower c.args._start from to c.requires.ordered c.requires.in_range c.requires.lower refl refl in
    range_full {c = owned_unaries c.args.self.now} (held_top c.args.self.now.bits) (to - from) (take (c.args.range.«end» - c.args.range.start) (drop c.args.range.start (shifted c.args.lower c.args._start (numbers (unaries_format.rows (unaries_content view_bytes view_bytes view_bytes c.args.view.now)))))) c.copy_upto.result c.requires.sound (rw c.requires.last n) c.copy_upto.ensures.wanted

pub returns-clause-left : goal.returns-clause-left
returns-clause-left g c = offset_left (owned_unaries c.args.self.now) (owned_unaries (record { bits = c.copy_upto.new.bits })) (held_top c.args.self.now.bits) (held_top c.copy_upto.new.bits) (take (c.args.range.«end» - c.args.range.start) (drop c.args.range.start (shifted c.args.lower c.args._start (numbers (unaries_format.rows (unaries_content view_bytes view_bytes view_bytes c.args.view.now)))))) c.copy_upto.result (returns-clause-ok g c) c.copy_upto.ensures.capacity
