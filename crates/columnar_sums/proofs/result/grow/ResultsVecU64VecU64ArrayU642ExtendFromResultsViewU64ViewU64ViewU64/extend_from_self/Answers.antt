use Rattle.std.proofs.Common.{arith, ◌-◌, length}
use Rattle.std.proofs.lemmas.List.{length-map}
use Rattle.columnar_core.specs.ChangeLaws.{passed_on, unchanged, undone}
use Rattle.columnar_core.specs.Row.{truth}
use Rattle.columnar_core.specs.WordViews.{view_bytes}
use Rattle.columnar_sums.specs.RankColumns.{ranks_content, ranks_bits, ranked_bits}
use Rattle.columnar_sums.specs.Results.{turned, oks, errs}
use Rattle.columnar_sums.specs.ResultLaws.{results_parts, results_within, results_clear, results_clear_of, results_ok_top, results_err_top, results_copied_range, results_refused_oks_range, results_refused_errs_range, results_refused_bits_range}
use Rattle.columnar_sums.specs.WeaveLaws.{ones_grows}
use Rattle.columnar_sums.specs.Rooms.{held_top}
use Rattle.columnar_core.specs.RoomLaws.{both_leave, full_left, full_right, counted_leaves, counted_full, through_leaves, through_full}
use Rattle.columnar_sums.specs.RoomLaws.{count_counted, results_level_range, oks_range, errs_range}
use Rattle.columnar_sums.proofs.result.grow.ResultsVecU64VecU64ArrayU642ExtendFromResultsViewU64ViewU64ViewU64.extend_from_self.Goals as goal

pub len-oks-requires : goal.len-oks-requires
len-oks-requires g c = (results_parts g.SC.Column.format g.TC.Column.format c.requires.sound).oks

pub len-errs-requires : goal.len-errs-requires
len-errs-requires g c = (results_parts g.SC.Column.format g.TC.Column.format c.requires.sound).errs

pub rank-first-requires-clause-in_range : goal.rank-first-requires-clause-in_range
rank-first-requires-clause-in_range g c = results_within g.V.Column.format g.W.Column.format (ranks_content view_bytes view_bytes view_bytes c.args.view.indexes) (g.V.Column.content c.args.view.oks) (g.W.Column.content c.args.view.errs) c.args.range.start (let l = c.requires.ordered in let m = c.requires.in_range in omega arith)

pub rank-last-requires-clause-in_range : goal.rank-last-requires-clause-in_range
rank-last-requires-clause-in_range g c = results_within g.V.Column.format g.W.Column.format (ranks_content view_bytes view_bytes view_bytes c.args.view.indexes) (g.V.Column.content c.args.view.oks) (g.W.Column.content c.args.view.errs) c.args.range.«end» c.requires.in_range

pub extend_from_self-requires-clause-sound : goal.extend_from_self-requires-clause-sound
extend_from_self-requires-clause-sound g c = (results_parts g.SC.Column.format g.TC.Column.format c.requires.sound).oks

pub extend_from_self-requires-clause-view_sound : goal.extend_from_self-requires-clause-view_sound
extend_from_self-requires-clause-view_sound g c = (results_parts g.V.Column.format g.W.Column.format c.requires.view_sound).oks

pub extend_from_self-requires-clause-ordered : goal.extend_from_self-requires-clause-ordered
extend_from_self-requires-clause-ordered g c = rw (c.rank-first.ensures.value, c.rank-last.ensures.value) (ones_grows (ranks_bits (ranks_content view_bytes view_bytes view_bytes c.args.view.indexes)) c.args.range.start c.args.range.«end» c.requires.ordered)

pub extend_from_self-requires-clause-in_range : goal.extend_from_self-requires-clause-in_range
extend_from_self-requires-clause-in_range g c = rw c.rank-last.ensures.value (results_ok_top g.V.Column.format g.W.Column.format (ranks_content view_bytes view_bytes view_bytes c.args.view.indexes) (g.V.Column.content c.args.view.oks) (g.W.Column.content c.args.view.errs) c.args.range.«end» c.requires.view_sound c.requires.in_range)

pub returns-in_err-extend_from_self-clause-err : goal.returns-in_err-extend_from_self-clause-err
returns-in_err-extend_from_self-clause-err g c =
    let p = results_parts g.SC.Column.format g.TC.Column.format c.requires.sound in
    rw (passed_on c.from_residual.result c.from_residual.ensures.1) (results_refused_oks_range g.SC.Column.format g.TC.Column.format g.V.Column.format g.W.Column.format (ranks_content view_bytes view_bytes view_bytes c.args.view.indexes) (g.V.Column.content c.args.view.oks) (g.W.Column.content c.args.view.errs) c.args.range.start c.args.range.«end» c.requires.sound c.requires.view_sound c.requires.ordered c.requires.in_range (unchanged p.bits) (rw (c.rank-first.ensures.value, c.rank-last.ensures.value) at c.in_err-extend_from_self.ensures.err) (unchanged p.errs))

pub overflow_sub-start : goal.overflow_sub-start
overflow_sub-start g c =
    let l = c.requires.ordered in
    let m = c.requires.in_range in
    omega (arith, c.rank-first.ensures.value, results_clear g.V.Column.format g.W.Column.format (ranks_content view_bytes view_bytes view_bytes c.args.view.indexes) (g.V.Column.content c.args.view.oks) (g.W.Column.content c.args.view.errs) c.args.range.start (omega arith))

pub overflow_sub-end : goal.overflow_sub-end
overflow_sub-end g c = omega (arith, c.rank-last.ensures.value, results_clear g.V.Column.format g.W.Column.format (ranks_content view_bytes view_bytes view_bytes c.args.view.indexes) (g.V.Column.content c.args.view.oks) (g.W.Column.content c.args.view.errs) c.args.range.«end» c.requires.in_range)

pub extend_from_self-requires-2-clause-sound : goal.extend_from_self-requires-2-clause-sound
extend_from_self-requires-2-clause-sound g c = (results_parts g.SC.Column.format g.TC.Column.format c.requires.sound).errs

pub extend_from_self-requires-2-clause-view_sound : goal.extend_from_self-requires-2-clause-view_sound
extend_from_self-requires-2-clause-view_sound g c = (results_parts g.V.Column.format g.W.Column.format c.requires.view_sound).errs

pub extend_from_self-requires-2-clause-ordered : goal.extend_from_self-requires-2-clause-ordered
extend_from_self-requires-2-clause-ordered g c =
    let x = ranks_content view_bytes view_bytes view_bytes c.args.view.indexes in
    let y = g.V.Column.content c.args.view.oks in
    let z = g.W.Column.content c.args.view.errs in
    let l = c.requires.ordered in
    let m = c.requires.in_range in
    let p = results_clear_of g.V.Column.format g.W.Column.format x y z c.args.range.start c.rank-first.result c.rank-first.ensures.value (omega arith) in
    let q = results_clear_of g.V.Column.format g.W.Column.format x y z c.args.range.«end» c.rank-last.result c.rank-last.ensures.value c.requires.in_range in
    rw (p, q) (ones_grows (turned (ranks_bits x)) c.args.range.start c.args.range.«end» c.requires.ordered)

pub extend_from_self-requires-2-clause-in_range : goal.extend_from_self-requires-2-clause-in_range
extend_from_self-requires-2-clause-in_range g c =
    let x = ranks_content view_bytes view_bytes view_bytes c.args.view.indexes in
    let y = g.V.Column.content c.args.view.oks in
    let z = g.W.Column.content c.args.view.errs in
    let q = results_clear_of g.V.Column.format g.W.Column.format x y z c.args.range.«end» c.rank-last.result c.rank-last.ensures.value c.requires.in_range in
    rw q (results_err_top g.V.Column.format g.W.Column.format x y z c.args.range.«end» c.requires.view_sound c.requires.in_range)

pub returns-in-Err-clause-err : goal.returns-in-Err-clause-err
returns-in-Err-clause-err g c =
    let x = ranks_content view_bytes view_bytes view_bytes c.args.view.indexes in
    let y = g.V.Column.content c.args.view.oks in
    let z = g.W.Column.content c.args.view.errs in
    let l = c.requires.ordered in
    let m = c.requires.in_range in
    let p = results_clear_of g.V.Column.format g.W.Column.format x y z c.args.range.start c.rank-first.result c.rank-first.ensures.value (omega arith) in
    let q = results_clear_of g.V.Column.format g.W.Column.format x y z c.args.range.«end» c.rank-last.result c.rank-last.ensures.value c.requires.in_range in
    let k = results_parts g.SC.Column.format g.TC.Column.format c.requires.sound in
    results_refused_errs_range g.SC.Column.format g.TC.Column.format g.V.Column.format g.W.Column.format x y z c.args.range.start c.args.range.«end» c.requires.sound c.requires.view_sound c.requires.ordered c.requires.in_range (unchanged k.bits) (undone g.met.SC.Truncate.lawful k.oks c.in_ok-extend_from_self.ensures.ok.took.grew (rw c.len-oks.ensures at c.truncate.ensures.cut)) (rw (p, q) at c.in-Err.ensures.err)

pub extend_from_self-requires-3-clause-in_range : goal.extend_from_self-requires-3-clause-in_range
extend_from_self-requires-3-clause-in_range g c = omega (arith, length-map (ranks_bits (ranks_content view_bytes view_bytes view_bytes c.args.view.indexes)) truth, results_within g.V.Column.format g.W.Column.format (ranks_content view_bytes view_bytes view_bytes c.args.view.indexes) (g.V.Column.content c.args.view.oks) (g.W.Column.content c.args.view.errs) c.args.range.«end» c.requires.in_range)

pub returns-in-Ok-extend_from_self-clause-ok : goal.returns-in-Ok-extend_from_self-clause-ok
returns-in-Ok-extend_from_self-clause-ok g c =
    let x = ranks_content view_bytes view_bytes view_bytes c.args.view.indexes in
    let y = g.V.Column.content c.args.view.oks in
    let z = g.W.Column.content c.args.view.errs in
    let l = c.requires.ordered in
    let m = c.requires.in_range in
    let p = results_clear_of g.V.Column.format g.W.Column.format x y z c.args.range.start c.rank-first.result c.rank-first.ensures.value (omega arith) in
    let q = results_clear_of g.V.Column.format g.W.Column.format x y z c.args.range.«end» c.rank-last.result c.rank-last.ensures.value c.requires.in_range in
    results_copied_range g.SC.Column.format g.TC.Column.format g.V.Column.format g.W.Column.format x y z c.args.range.start c.args.range.«end» g.met.SC.Truncate.lawful.same g.met.TC.Truncate.lawful.same c.requires.sound c.requires.view_sound c.requires.ordered c.requires.in_range c.in-Ok-extend_from_self.ensures.ok (rw (c.rank-first.ensures.value, c.rank-last.ensures.value) at c.in_ok-extend_from_self.ensures.ok) (rw (p, q) at c.in-Ok.ensures.ok)

pub returns-in-Err-extend_from_self-clause-err : goal.returns-in-Err-extend_from_self-clause-err
returns-in-Err-extend_from_self-clause-err g c =
    let k = results_parts g.SC.Column.format g.TC.Column.format c.requires.sound in
    results_refused_bits_range g.SC.Column.format g.TC.Column.format g.V.Column.format g.W.Column.format (ranks_content view_bytes view_bytes view_bytes c.args.view.indexes) (g.V.Column.content c.args.view.oks) (g.W.Column.content c.args.view.errs) c.args.range.start c.args.range.«end» c.requires.sound c.requires.ordered c.in-Err-extend_from_self.ensures.err (undone g.met.SC.Truncate.lawful k.oks c.in_ok-extend_from_self.ensures.ok.took.grew (rw c.len-oks.ensures at c.truncate-in-Err-extend_from_self.ensures.cut)) (undone g.met.TC.Truncate.lawful k.errs c.in-Ok.ensures.ok.took.grew (rw c.len-errs.ensures at c.truncate-in-Err-extend_from_self-2.ensures.cut))

pub returns-in_err-extend_from_self-clause-wanted : goal.returns-in_err-extend_from_self-clause-wanted
returns-in_err-extend_from_self-clause-wanted g c = rw (passed_on c.from_residual.result c.from_residual.ensures.1) (full_right _ (full_left _ (through_full oks _ (λ rs. oks_range (ranks_bits (ranks_content view_bytes view_bytes view_bytes c.args.view.indexes)) (g.V.Column.format.rows (g.V.Column.content c.args.view.oks)) (g.W.Column.format.rows (g.W.Column.content c.args.view.errs)) c.args.range.start c.args.range.«end» (results_parts g.V.Column.format g.W.Column.format c.requires.view_sound).ok_level c.requires.ordered (results_within g.V.Column.format g.W.Column.format (ranks_content view_bytes view_bytes view_bytes c.args.view.indexes) (g.V.Column.content c.args.view.oks) (g.W.Column.content c.args.view.errs) c.args.range.«end» c.requires.in_range) rs) (rw (c.rank-first.ensures.value, c.rank-last.ensures.value) at c.in_err-extend_from_self.ensures.wanted))))

pub returns-in-Err-clause-wanted : goal.returns-in-Err-clause-wanted
returns-in-Err-clause-wanted g c =
    let x = ranks_content view_bytes view_bytes view_bytes c.args.view.indexes in
    let y = g.V.Column.content c.args.view.oks in
    let z = g.W.Column.content c.args.view.errs in
    let l = c.requires.ordered in
    let m = c.requires.in_range in
    let p = results_clear_of g.V.Column.format g.W.Column.format x y z c.args.range.start c.rank-first.result c.rank-first.ensures.value (omega arith) in
    let q = results_clear_of g.V.Column.format g.W.Column.format x y z c.args.range.«end» c.rank-last.result c.rank-last.ensures.value c.requires.in_range in
    full_right _ (full_right _ (through_full errs _ (λ rs. errs_range (ranks_bits (ranks_content view_bytes view_bytes view_bytes c.args.view.indexes)) (g.V.Column.format.rows (g.V.Column.content c.args.view.oks)) (g.W.Column.format.rows (g.W.Column.content c.args.view.errs)) c.args.range.start c.args.range.«end» (results_parts g.V.Column.format g.W.Column.format c.requires.view_sound).err_level c.requires.ordered (results_within g.V.Column.format g.W.Column.format (ranks_content view_bytes view_bytes view_bytes c.args.view.indexes) (g.V.Column.content c.args.view.oks) (g.W.Column.content c.args.view.errs) c.args.range.«end» c.requires.in_range) rs) (rw (p, q) at c.in-Err.ensures.wanted)))

pub returns-in-Ok-extend_from_self-clause-left : goal.returns-in-Ok-extend_from_self-clause-left
returns-in-Ok-extend_from_self-clause-left g c =
    let x = ranks_content view_bytes view_bytes view_bytes c.args.view.indexes in
    let y = g.V.Column.content c.args.view.oks in
    let z = g.W.Column.content c.args.view.errs in
    let l = c.requires.ordered in
    let m = c.requires.in_range in
    let p = results_clear_of g.V.Column.format g.W.Column.format x y z c.args.range.start c.rank-first.result c.rank-first.ensures.value (omega arith) in
    let q = results_clear_of g.V.Column.format g.W.Column.format x y z c.args.range.«end» c.rank-last.result c.rank-last.ensures.value c.requires.in_range in
    both_leave (counted_leaves _ _ (results_level_range (ranks_bits (ranks_content view_bytes view_bytes view_bytes c.args.view.indexes)) (g.V.Column.format.rows (g.V.Column.content c.args.view.oks)) (g.W.Column.format.rows (g.W.Column.content c.args.view.errs)) c.args.range.start (c.args.range.«end» - c.args.range.start)) (count_counted (length (ranked_bits c.args.self.now.indexes)) (held_top c.args.self.now.indexes)) c.in-Ok-extend_from_self.ensures.left) (both_leave (through_leaves oks _ (λ rs. oks_range (ranks_bits (ranks_content view_bytes view_bytes view_bytes c.args.view.indexes)) (g.V.Column.format.rows (g.V.Column.content c.args.view.oks)) (g.W.Column.format.rows (g.W.Column.content c.args.view.errs)) c.args.range.start c.args.range.«end» (results_parts g.V.Column.format g.W.Column.format c.requires.view_sound).ok_level c.requires.ordered (results_within g.V.Column.format g.W.Column.format (ranks_content view_bytes view_bytes view_bytes c.args.view.indexes) (g.V.Column.content c.args.view.oks) (g.W.Column.content c.args.view.errs) c.args.range.«end» c.requires.in_range) rs) (rw (c.rank-first.ensures.value, c.rank-last.ensures.value) at c.in_ok-extend_from_self.ensures.left)) (through_leaves errs _ (λ rs. errs_range (ranks_bits (ranks_content view_bytes view_bytes view_bytes c.args.view.indexes)) (g.V.Column.format.rows (g.V.Column.content c.args.view.oks)) (g.W.Column.format.rows (g.W.Column.content c.args.view.errs)) c.args.range.start c.args.range.«end» (results_parts g.V.Column.format g.W.Column.format c.requires.view_sound).err_level c.requires.ordered (results_within g.V.Column.format g.W.Column.format (ranks_content view_bytes view_bytes view_bytes c.args.view.indexes) (g.V.Column.content c.args.view.oks) (g.W.Column.content c.args.view.errs) c.args.range.«end» c.requires.in_range) rs) (rw (p, q) at c.in-Ok.ensures.left)))

pub returns-in-Err-extend_from_self-clause-wanted : goal.returns-in-Err-extend_from_self-clause-wanted
returns-in-Err-extend_from_self-clause-wanted g c = full_left _ (counted_full _ _ (results_level_range (ranks_bits (ranks_content view_bytes view_bytes view_bytes c.args.view.indexes)) (g.V.Column.format.rows (g.V.Column.content c.args.view.oks)) (g.W.Column.format.rows (g.W.Column.content c.args.view.errs)) c.args.range.start (c.args.range.«end» - c.args.range.start)) (count_counted (length (ranked_bits c.args.self.now.indexes)) (held_top c.args.self.now.indexes)) c.in-Err-extend_from_self.ensures.wanted)
