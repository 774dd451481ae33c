use Rattle.std.proofs.Common.{length, sym, ap, ◌∙◌, ◌≡◌, ◌+◌, ◌-◌, take, drop, arith, length-append}
use Rattle.columnar_base.specs.ChangeLaws.{passed_on, unchanged, undone}
use Rattle.columnar_lists.specs.ListLaws.{list_range, range_held, range_length, range_copied, range_refused_values, range_refused_bounds, took_length, lists_parts, lists_last, lists_within_le}
use Rattle.columnar_lists.specs.RoomLaws.{range_leaves, range_full_values, range_full_bounds}
use Rattle.columnar_lists.proofs.parts.copy_lists_tallied.Goals as goal
use Rattle.columnar_lists.proofs.parts.copy_lists_tallied.Goals.{in-Ok, in-Err}

pub len-before-requires : goal.len-before-requires
len-before-requires g c = (lists_parts g.BC.Column.format g.TC.Column.format c.requires.sound).values

pub start_of-lower-requires-clause-sound : goal.start_of-lower-requires-clause-sound
start_of-lower-requires-clause-sound g c = (lists_parts g.W.Column.format g.V.Column.format c.requires.view_sound).bounds

pub start_of-lower-requires-clause-in_range : goal.start_of-lower-requires-clause-in_range
start_of-lower-requires-clause-in_range g c = lists_within_le g.W.Column.format g.V.Column.format (g.W.Column.content c.args.view.now) (g.V.Column.content c.args.items) c.args.range.start (omega (arith, c.requires.ordered, c.requires.in_range))

pub start_of-upper-requires-clause-sound : goal.start_of-upper-requires-clause-sound
start_of-upper-requires-clause-sound g c = (lists_parts g.W.Column.format g.V.Column.format c.requires.view_sound).bounds

pub start_of-upper-requires-clause-in_range : goal.start_of-upper-requires-clause-in_range
start_of-upper-requires-clause-in_range g c = lists_within_le g.W.Column.format g.V.Column.format (g.W.Column.content c.args.view.now) (g.V.Column.content c.args.items) c.args.range.«end» c.requires.in_range

pub extend_from_self-requires-clause-sound : goal.extend_from_self-requires-clause-sound
extend_from_self-requires-clause-sound g c = (lists_parts g.BC.Column.format g.TC.Column.format c.requires.sound).values

pub extend_from_self-requires-clause-view_sound : goal.extend_from_self-requires-clause-view_sound
extend_from_self-requires-clause-view_sound g c = (lists_parts g.W.Column.format g.V.Column.format c.requires.view_sound).values

pub extend_from_self-requires-clause-ordered : goal.extend_from_self-requires-clause-ordered
extend_from_self-requires-clause-ordered g c = (list_range g.W.Column.format g.V.Column.format c.args.range.start c.args.range.«end» c.requires.view_sound c.requires.ordered c.start_of-lower.ensures c.start_of-upper.ensures).ordered

pub extend_from_self-requires-clause-in_range : goal.extend_from_self-requires-clause-in_range
extend_from_self-requires-clause-in_range g c = (list_range g.W.Column.format g.V.Column.format c.args.range.start c.args.range.«end» c.requires.view_sound c.requires.ordered c.start_of-lower.ensures c.start_of-upper.ensures).within

pub returns-in_err-extend_from_self-clause-err : goal.returns-in_err-extend_from_self-clause-err
returns-in_err-extend_from_self-clause-err g c =
    rw (passed_on c.from_residual.result c.from_residual.ensures.1) (
    let r = list_range g.W.Column.format g.V.Column.format c.args.range.start c.args.range.«end» c.requires.view_sound c.requires.ordered c.start_of-lower.ensures c.start_of-upper.ensures in
    range_refused_values g.BC.Column.format g.TC.Column.format c.requires.sound r (unchanged (lists_parts g.BC.Column.format g.TC.Column.format c.requires.sound).bounds) c.in_err-extend_from_self.ensures.err)

pub len-end-requires : goal.len-end-requires
len-end-requires g c = c.in_ok-extend_from_self.ensures.ok.took.grew.sound

pub extend_shifted_tallied-requires-clause-sound : goal.extend_shifted_tallied-requires-clause-sound
extend_shifted_tallied-requires-clause-sound g c = (lists_parts g.BC.Column.format g.TC.Column.format c.requires.sound).bounds

pub extend_shifted_tallied-requires-clause-view_sound : goal.extend_shifted_tallied-requires-clause-view_sound
extend_shifted_tallied-requires-clause-view_sound g c = (lists_parts g.W.Column.format g.V.Column.format c.requires.view_sound).bounds

pub extend_shifted_tallied-requires-clause-lower : goal.extend_shifted_tallied-requires-clause-lower
extend_shifted_tallied-requires-clause-lower g c = c.start_of-lower.ensures

pub extend_shifted_tallied-requires-clause-last : goal.extend_shifted_tallied-requires-clause-last
extend_shifted_tallied-requires-clause-last g c = lists_last g.BC.Column.format g.TC.Column.format c.len-before.result c.requires.sound c.len-before.ensures

pub extend_shifted_tallied-requires-clause-in_range : goal.extend_shifted_tallied-requires-clause-in_range
extend_shifted_tallied-requires-clause-in_range g c = lists_within_le g.W.Column.format g.V.Column.format (g.W.Column.content c.args.view.now) (g.V.Column.content c.args.items) c.args.range.«end» c.requires.in_range

pub extend_shifted_tallied-requires-clause-held : goal.extend_shifted_tallied-requires-clause-held
extend_shifted_tallied-requires-clause-held g c =
    let r = list_range g.W.Column.format g.V.Column.format c.args.range.start c.args.range.«end» c.requires.view_sound c.requires.ordered c.start_of-lower.ensures c.start_of-upper.ensures in
    let n = took_length {us = take (c.start_of-upper.result - c.start_of-lower.result) (drop c.start_of-lower.result (g.V.Column.format.rows (g.V.Column.content c.args.items)))} c.in_ok-extend_from_self.ensures.ok.took in
    let e : c.len-end.result ≡ c.len-before.result + (c.start_of-upper.result - c.start_of-lower.result) = omega (arith, n, range_length r, c.len-end.ensures, c.len-before.ensures) in
    range_held r c.len-before.result c.len-end.result e (omega arith)

pub truncate-requires-clause-sound : goal.truncate-requires-clause-sound
truncate-requires-clause-sound g c = c.in_ok-extend_from_self.ensures.ok.took.grew.sound

pub truncate-requires-clause-in_range : goal.truncate-requires-clause-in_range
truncate-requires-clause-in_range g c = rw c.in_ok-extend_from_self.ensures.ok.took.grew.rows (rw length-append (omega (arith, c.len-before.ensures)))

pub returns-clause-ok : goal.returns-clause-ok
returns-clause-ok g c =
    let r = list_range g.W.Column.format g.V.Column.format c.args.range.start c.args.range.«end» c.requires.view_sound c.requires.ordered c.start_of-lower.ensures c.start_of-upper.ensures in
    elim c.match-extend_shifted_tallied.branch [
      | in-Ok w ↦ rw (w.values-is, w.result-is) (range_copied g.BC.Column.format g.TC.Column.format g.met.BC.Offsets.bounds c.requires.sound r c.start_of-lower.ensures c.in_ok-extend_from_self.ensures.ok (rw c.len-before.ensures at w.in-Ok.ensures.ok))
      | in-Err w ↦ rw w.result-is tt
    ]

pub returns-clause-err : goal.returns-clause-err
returns-clause-err g c =
    let r = list_range g.W.Column.format g.V.Column.format c.args.range.start c.args.range.«end» c.requires.view_sound c.requires.ordered c.start_of-lower.ensures c.start_of-upper.ensures in
    elim c.match-extend_shifted_tallied.branch [
      | in-Ok w ↦ rw w.result-is tt
      | in-Err w ↦ rw (w.values-is, w.result-is) (range_refused_bounds g.BC.Column.format g.TC.Column.format c.requires.sound r (rw c.len-before.ensures at w.in-Err.ensures.err) (undone {mid = g.TC.Column.content c.extend_from_self.new.self} g.met.TC.Truncate.lawful (lists_parts g.BC.Column.format g.TC.Column.format c.requires.sound).values c.in_ok-extend_from_self.ensures.ok.took.grew (rw c.len-before.ensures at w.truncate.ensures.cut)))
    ]

pub returns-in_err-extend_from_self-clause-wanted : goal.returns-in_err-extend_from_self-clause-wanted
returns-in_err-extend_from_self-clause-wanted g c =
    let r = list_range g.W.Column.format g.V.Column.format c.args.range.start c.args.range.«end» c.requires.view_sound c.requires.ordered c.start_of-lower.ensures c.start_of-upper.ensures in
    rw (passed_on c.from_residual.result c.from_residual.ensures.1) (range_full_values (g.BC.Column.room c.args.bounds.now) _ _ _ r.items c.in_err-extend_from_self.ensures.wanted)

pub returns-clause-left : goal.returns-clause-left
returns-clause-left g c =
    let r = list_range g.W.Column.format g.V.Column.format c.args.range.start c.args.range.«end» c.requires.view_sound c.requires.ordered c.start_of-lower.ensures c.start_of-upper.ensures in
    let n = length (g.TC.Column.format.rows (g.TC.Column.content c.args.values.now)) in
    elim c.match-extend_shifted_tallied.branch [
      | in-Ok w ↦ rw (w.values-is, w.result-is) (range_leaves n _ _ _ _ r.items (r.ended n) (took_length c.in_ok-extend_from_self.ensures.ok.took) c.in_ok-extend_from_self.ensures.left (rw c.len-before.ensures at w.in-Ok.ensures.left))
      | in-Err w ↦ rw w.result-is tt
    ]

pub returns-clause-wanted : goal.returns-clause-wanted
returns-clause-wanted g c =
    let r = list_range g.W.Column.format g.V.Column.format c.args.range.start c.args.range.«end» c.requires.view_sound c.requires.ordered c.start_of-lower.ensures c.start_of-upper.ensures in
    let n = length (g.TC.Column.format.rows (g.TC.Column.content c.args.values.now)) in
    elim c.match-extend_shifted_tallied.branch [
      | in-Ok w ↦ rw w.result-is tt
      | in-Err w ↦ rw w.result-is (range_full_bounds (g.TC.Column.room c.args.values.now) n _ _ (r.ended n) (rw c.len-before.ensures at w.in-Err.ensures.wanted))
    ]
