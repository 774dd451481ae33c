use Rattle.std.proofs.Common.{arith, ◌-◌, length}
use Rattle.columnar_sums.specs.OptionLaws.{options_parts, options_within, options_top, options_copied_range, options_refused_values_range, options_refused_bits_range}
use Rattle.columnar_sums.specs.RankColumns.{ranks_content, ranked_bits}
use Rattle.std.proofs.lemmas.List.{length-map}
use Rattle.columnar_core.specs.Row.{truth}
use Rattle.columnar_core.specs.ChangeLaws.{passed_on, unchanged, undone}
use Rattle.columnar_core.specs.WordViews.{view_bytes}
use Rattle.columnar_sums.specs.RankColumns.{ranks_bits}
use Rattle.columnar_sums.specs.WeaveLaws.{ones_grows}
use Rattle.columnar_sums.specs.Rooms.{held_top}
use Rattle.columnar_sums.specs.Options.{somes}
use Rattle.columnar_core.specs.RoomLaws.{both_leave, full_left, full_right, counted_leaves, counted_full, through_leaves, through_full}
use Rattle.columnar_sums.specs.RoomLaws.{count_counted, options_level_range, somes_range}
use Rattle.columnar_sums.proofs.option.grow.OptionsVecU64VecU64ArrayU642ExtendFromOptionsViewU64ViewU64ViewU64.extend_from_self.Goals as goal

pub len-taken-requires : goal.len-taken-requires
len-taken-requires g c = (options_parts g.TC.Column.format c.requires.sound).values

pub rank-first-requires-clause-in_range : goal.rank-first-requires-clause-in_range
rank-first-requires-clause-in_range g c = options_within g.V.Column.format (ranks_content view_bytes view_bytes view_bytes c.args.view.indexes) (g.V.Column.content c.args.view.somes) c.args.range.start (let l = c.requires.ordered in let m = c.requires.in_range in omega arith)

pub rank-last-requires-clause-in_range : goal.rank-last-requires-clause-in_range
rank-last-requires-clause-in_range g c = options_within g.V.Column.format (ranks_content view_bytes view_bytes view_bytes c.args.view.indexes) (g.V.Column.content c.args.view.somes) c.args.range.«end» c.requires.in_range

pub extend_from_self-requires-clause-sound : goal.extend_from_self-requires-clause-sound
extend_from_self-requires-clause-sound g c = (options_parts g.TC.Column.format c.requires.sound).values

pub extend_from_self-requires-clause-view_sound : goal.extend_from_self-requires-clause-view_sound
extend_from_self-requires-clause-view_sound g c = (options_parts g.V.Column.format c.requires.view_sound).values

pub extend_from_self-requires-clause-ordered : goal.extend_from_self-requires-clause-ordered
extend_from_self-requires-clause-ordered g c = rw (c.rank-first.ensures.value, c.rank-last.ensures.value) (ones_grows (ranks_bits (ranks_content view_bytes view_bytes view_bytes c.args.view.indexes)) c.args.range.start c.args.range.«end» c.requires.ordered)

pub extend_from_self-requires-clause-in_range : goal.extend_from_self-requires-clause-in_range
extend_from_self-requires-clause-in_range g c = rw c.rank-last.ensures.value (options_top g.V.Column.format (ranks_content view_bytes view_bytes view_bytes c.args.view.indexes) (g.V.Column.content c.args.view.somes) c.args.range.«end» c.requires.view_sound c.requires.in_range)

pub returns-in_err-extend_from_self-clause-err : goal.returns-in_err-extend_from_self-clause-err
returns-in_err-extend_from_self-clause-err g c = rw (passed_on c.from_residual.result c.from_residual.ensures.1) (options_refused_values_range g.TC.Column.format g.V.Column.format (ranks_content view_bytes view_bytes view_bytes c.args.view.indexes) (g.V.Column.content c.args.view.somes) c.args.range.start c.args.range.«end» c.requires.sound c.requires.view_sound c.requires.ordered c.requires.in_range (unchanged (options_parts g.TC.Column.format c.requires.sound).bits) (rw (c.rank-first.ensures.value, c.rank-last.ensures.value) at c.in_err-extend_from_self.ensures.err))

pub extend_from_self-requires-2-clause-in_range : goal.extend_from_self-requires-2-clause-in_range
extend_from_self-requires-2-clause-in_range g c = omega (arith, length-map (ranks_bits (ranks_content view_bytes view_bytes view_bytes c.args.view.indexes)) truth, options_within g.V.Column.format (ranks_content view_bytes view_bytes view_bytes c.args.view.indexes) (g.V.Column.content c.args.view.somes) c.args.range.«end» c.requires.in_range)

pub returns-in-Ok-clause-ok : goal.returns-in-Ok-clause-ok
returns-in-Ok-clause-ok g c = options_copied_range g.TC.Column.format g.V.Column.format (ranks_content view_bytes view_bytes view_bytes c.args.view.indexes) (g.V.Column.content c.args.view.somes) c.args.range.start c.args.range.«end» g.met.TC.Truncate.lawful.same c.requires.sound c.requires.view_sound c.requires.ordered c.requires.in_range c.in-Ok.ensures.ok (rw (c.rank-first.ensures.value, c.rank-last.ensures.value) at c.in_ok-extend_from_self.ensures.ok)

pub returns-in-Err-clause-err : goal.returns-in-Err-clause-err
returns-in-Err-clause-err g c = options_refused_bits_range g.TC.Column.format g.V.Column.format (ranks_content view_bytes view_bytes view_bytes c.args.view.indexes) (g.V.Column.content c.args.view.somes) c.args.range.start c.args.range.«end» c.requires.sound c.requires.ordered c.in-Err.ensures.err (undone g.met.TC.Truncate.lawful (options_parts g.TC.Column.format c.requires.sound).values c.in_ok-extend_from_self.ensures.ok.took.grew (rw c.len-taken.ensures at c.truncate.ensures.cut))

pub returns-in_err-extend_from_self-clause-wanted : goal.returns-in_err-extend_from_self-clause-wanted
returns-in_err-extend_from_self-clause-wanted g c = rw (passed_on c.from_residual.result c.from_residual.ensures.1) (full_right _ (through_full somes _ (λ rs. somes_range (ranks_bits (ranks_content view_bytes view_bytes view_bytes c.args.view.indexes)) (g.V.Column.format.rows (g.V.Column.content c.args.view.somes)) c.args.range.start c.args.range.«end» (options_parts g.V.Column.format c.requires.view_sound).level c.requires.ordered (options_within g.V.Column.format (ranks_content view_bytes view_bytes view_bytes c.args.view.indexes) (g.V.Column.content c.args.view.somes) c.args.range.«end» c.requires.in_range) rs) (rw (c.rank-first.ensures.value, c.rank-last.ensures.value) at c.in_err-extend_from_self.ensures.wanted)))

pub returns-in-Ok-clause-left : goal.returns-in-Ok-clause-left
returns-in-Ok-clause-left g c = both_leave (counted_leaves _ _ (options_level_range (ranks_bits (ranks_content view_bytes view_bytes view_bytes c.args.view.indexes)) (g.V.Column.format.rows (g.V.Column.content c.args.view.somes)) c.args.range.start (c.args.range.«end» - c.args.range.start)) (count_counted (length (ranked_bits c.args.self.now.indexes)) (held_top c.args.self.now.indexes)) c.in-Ok.ensures.left) (through_leaves somes _ (λ rs. somes_range (ranks_bits (ranks_content view_bytes view_bytes view_bytes c.args.view.indexes)) (g.V.Column.format.rows (g.V.Column.content c.args.view.somes)) c.args.range.start c.args.range.«end» (options_parts g.V.Column.format c.requires.view_sound).level c.requires.ordered (options_within g.V.Column.format (ranks_content view_bytes view_bytes view_bytes c.args.view.indexes) (g.V.Column.content c.args.view.somes) c.args.range.«end» c.requires.in_range) rs) (rw (c.rank-first.ensures.value, c.rank-last.ensures.value) at c.in_ok-extend_from_self.ensures.left))

pub returns-in-Err-clause-wanted : goal.returns-in-Err-clause-wanted
returns-in-Err-clause-wanted g c = full_left _ (counted_full _ _ (options_level_range (ranks_bits (ranks_content view_bytes view_bytes view_bytes c.args.view.indexes)) (g.V.Column.format.rows (g.V.Column.content c.args.view.somes)) c.args.range.start (c.args.range.«end» - c.args.range.start)) (count_counted (length (ranked_bits c.args.self.now.indexes)) (held_top c.args.self.now.indexes)) c.in-Err.ensures.wanted)
