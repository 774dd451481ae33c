use Rattle.std.proofs.Common.{◌-◌, ◌∙◌, take, drop, arith}
use Rattle.columnar_core.specs.ChangeLaws.{passed_on, undone}
use Rattle.columnar_core.specs.Format.{both}
use Rattle.columnar_sums.specs.Discriminants.{forms_content, owned_forms, variants_of, times}
use Rattle.columnar_variants.specs.Duals.{dual_bank}
use Rattle.columnar_variants.specs.DualLaws.{dual_law, firsts_sound, seconds_sound, forms_sound}
use Rattle.columnar_variants.specs.VariantLaws.{variants_count, variants_number, variants_parts}
use Rattle.columnar_variants.specs.VariantCopyLaws.{has_range}
use Rattle.columnar_variants.specs.DualCopyLaws.{same_range, copied_as, refused_as, dual_copied, dual_refused_firsts, dual_refused_seconds, dual_refused_forms, two_at}
use Rattle.columnar_variants.specs.VariantListLaws.{times_range, range_length}
use Rattle.columnar_variants.proofs.dual.copy.extend_dual.Goals as goal

pub len-firsts_before-requires : goal.len-firsts_before-requires
len-firsts_before-requires g c = firsts_sound g.SC.Column.format g.TC.Column.format c.requires.sound

pub len-seconds_before-requires : goal.len-seconds_before-requires
len-seconds_before-requires g c = seconds_sound g.SC.Column.format g.TC.Column.format c.requires.sound

pub len-all_firsts-requires : goal.len-all_firsts-requires
len-all_firsts-requires g c = firsts_sound g.V.Column.format g.W.Column.format c.requires.view_sound

pub len-all_seconds-requires : goal.len-all_seconds-requires
len-all_seconds-requires g c = seconds_sound g.V.Column.format g.W.Column.format c.requires.view_sound

pub rows_before-from_first-requires-clause-sound : goal.rows_before-from_first-requires-clause-sound
rows_before-from_first-requires-clause-sound g c = forms_sound g.V.Column.format g.W.Column.format c.requires.view_sound

pub rows_before-from_first-requires-clause-in_range : goal.rows_before-from_first-requires-clause-in_range
rows_before-from_first-requires-clause-in_range g c = omega (arith, c.requires.ordered, c.requires.in_range, variants_count (dual_bank g.V.Column.format g.W.Column.format) (both (g.V.Column.content c.args.first_view) (g.W.Column.content c.args.second_view)) (forms_content g.CVar.Variants.bytes g.COff.Words.bytes c.args.kinds.now))

pub rows_before-to_first-requires-clause-sound : goal.rows_before-to_first-requires-clause-sound
rows_before-to_first-requires-clause-sound g c = forms_sound g.V.Column.format g.W.Column.format c.requires.view_sound

pub rows_before-to_first-requires-clause-in_range : goal.rows_before-to_first-requires-clause-in_range
rows_before-to_first-requires-clause-in_range g c = omega (arith, c.requires.ordered, c.requires.in_range, variants_count (dual_bank g.V.Column.format g.W.Column.format) (both (g.V.Column.content c.args.first_view) (g.W.Column.content c.args.second_view)) (forms_content g.CVar.Variants.bytes g.COff.Words.bytes c.args.kinds.now))

pub rows_before-from_second-requires-clause-sound : goal.rows_before-from_second-requires-clause-sound
rows_before-from_second-requires-clause-sound g c = forms_sound g.V.Column.format g.W.Column.format c.requires.view_sound

pub rows_before-from_second-requires-clause-in_range : goal.rows_before-from_second-requires-clause-in_range
rows_before-from_second-requires-clause-in_range g c = omega (arith, c.requires.ordered, c.requires.in_range, variants_count (dual_bank g.V.Column.format g.W.Column.format) (both (g.V.Column.content c.args.first_view) (g.W.Column.content c.args.second_view)) (forms_content g.CVar.Variants.bytes g.COff.Words.bytes c.args.kinds.now))

pub rows_before-to_second-requires-clause-sound : goal.rows_before-to_second-requires-clause-sound
rows_before-to_second-requires-clause-sound g c = forms_sound g.V.Column.format g.W.Column.format c.requires.view_sound

pub rows_before-to_second-requires-clause-in_range : goal.rows_before-to_second-requires-clause-in_range
rows_before-to_second-requires-clause-in_range g c = omega (arith, c.requires.ordered, c.requires.in_range, variants_count (dual_bank g.V.Column.format g.W.Column.format) (both (g.V.Column.content c.args.first_view) (g.W.Column.content c.args.second_view)) (forms_content g.CVar.Variants.bytes g.COff.Words.bytes c.args.kinds.now))

pub rows_before-from_second-requires-clause-all : goal.rows_before-from_second-requires-clause-all
rows_before-from_second-requires-clause-all g c = c.len-all_seconds.ensures ∙ variants_number (dual_bank g.V.Column.format g.W.Column.format) (dual_law g.V.Column.format g.W.Column.format) c.requires.view_sound 1 (omega arith)

pub rows_before-to_second-requires-clause-all : goal.rows_before-to_second-requires-clause-all
rows_before-to_second-requires-clause-all g c = c.len-all_seconds.ensures ∙ variants_number (dual_bank g.V.Column.format g.W.Column.format) (dual_law g.V.Column.format g.W.Column.format) c.requires.view_sound 1 (omega arith)

pub extend_from_self-requires-clause-sound : goal.extend_from_self-requires-clause-sound
extend_from_self-requires-clause-sound g c = firsts_sound g.SC.Column.format g.TC.Column.format c.requires.sound

pub extend_from_self-requires-clause-view_sound : goal.extend_from_self-requires-clause-view_sound
extend_from_self-requires-clause-view_sound g c = firsts_sound g.V.Column.format g.W.Column.format c.requires.view_sound

pub extend_from_self-requires-clause-ordered : goal.extend_from_self-requires-clause-ordered
extend_from_self-requires-clause-ordered g c = omega (arith, (times_range 0 c.args.range.start c.args.range.«end» (variants_of (forms_content g.CVar.Variants.bytes g.COff.Words.bytes c.args.kinds.now)) c.requires.ordered), c.rows_before-from_first.ensures, c.rows_before-to_first.ensures)

pub extend_from_self-requires-clause-in_range : goal.extend_from_self-requires-clause-in_range
extend_from_self-requires-clause-in_range g c = omega (arith, (times_range 0 c.args.range.start c.args.range.«end» (variants_of (forms_content g.CVar.Variants.bytes g.COff.Words.bytes c.args.kinds.now)) c.requires.ordered), c.rows_before-from_first.ensures, c.rows_before-to_first.ensures, (has_range (dual_bank g.V.Column.format g.W.Column.format) (dual_law g.V.Column.format g.W.Column.format) c.args.range.start c.args.range.«end» c.requires.view_sound).room 0 (omega arith))

pub extend_from_self-requires-2-clause-sound : goal.extend_from_self-requires-2-clause-sound
extend_from_self-requires-2-clause-sound g c = seconds_sound g.SC.Column.format g.TC.Column.format c.requires.sound

pub extend_from_self-requires-2-clause-view_sound : goal.extend_from_self-requires-2-clause-view_sound
extend_from_self-requires-2-clause-view_sound g c = seconds_sound g.V.Column.format g.W.Column.format c.requires.view_sound

pub extend_from_self-requires-2-clause-ordered : goal.extend_from_self-requires-2-clause-ordered
extend_from_self-requires-2-clause-ordered g c = omega (arith, (times_range 1 c.args.range.start c.args.range.«end» (variants_of (forms_content g.CVar.Variants.bytes g.COff.Words.bytes c.args.kinds.now)) c.requires.ordered), c.rows_before-from_second.ensures, c.rows_before-to_second.ensures)

pub extend_from_self-requires-2-clause-in_range : goal.extend_from_self-requires-2-clause-in_range
extend_from_self-requires-2-clause-in_range g c = omega (arith, (times_range 1 c.args.range.start c.args.range.«end» (variants_of (forms_content g.CVar.Variants.bytes g.COff.Words.bytes c.args.kinds.now)) c.requires.ordered), c.rows_before-from_second.ensures, c.rows_before-to_second.ensures, (has_range (dual_bank g.V.Column.format g.W.Column.format) (dual_law g.V.Column.format g.W.Column.format) c.args.range.start c.args.range.«end» c.requires.view_sound).room 1 (omega arith))

pub returns-in_err-extend_from_self-clause-err : goal.returns-in_err-extend_from_self-clause-err
returns-in_err-extend_from_self-clause-err g c = rw (passed_on c.from_residual.result c.from_residual.ensures.1) (dual_refused_firsts g.SC.Column.format g.TC.Column.format g.V.Column.format g.W.Column.format {w = (forms_content g.CVar.Variants.bytes g.COff.Words.bytes c.args.kinds.now)} c.args.range.start c.args.range.«end» c.requires.sound c.requires.view_sound (refused_as (same_range (g.V.Column.format.rows (g.V.Column.content c.args.first_view)) c.rows_before-from_first.result c.rows_before-to_first.result (times 0 (take c.args.range.start (variants_of (forms_content g.CVar.Variants.bytes g.COff.Words.bytes c.args.kinds.now)))) (times 0 (take (c.args.range.«end» - c.args.range.start) (drop c.args.range.start (variants_of (forms_content g.CVar.Variants.bytes g.COff.Words.bytes c.args.kinds.now))))) c.rows_before-from_first.ensures (omega (arith, (times_range 0 c.args.range.start c.args.range.«end» (variants_of (forms_content g.CVar.Variants.bytes g.COff.Words.bytes c.args.kinds.now)) c.requires.ordered), c.rows_before-from_first.ensures, c.rows_before-to_first.ensures))) c.in_err-extend_from_self.ensures.err))

pub returns-in-Err-clause-err : goal.returns-in-Err-clause-err
returns-in-Err-clause-err g c = dual_refused_seconds g.SC.Column.format g.TC.Column.format g.V.Column.format g.W.Column.format {w = (forms_content g.CVar.Variants.bytes g.COff.Words.bytes c.args.kinds.now)} c.args.range.start c.args.range.«end» c.requires.sound c.requires.view_sound (undone g.met.SC.Truncate.lawful (firsts_sound g.SC.Column.format g.TC.Column.format c.requires.sound) c.in_ok-extend_from_self.ensures.ok.took.grew (rw c.len-firsts_before.ensures at c.truncate.ensures.cut)) (refused_as (same_range (g.W.Column.format.rows (g.W.Column.content c.args.second_view)) c.rows_before-from_second.result c.rows_before-to_second.result (times 1 (take c.args.range.start (variants_of (forms_content g.CVar.Variants.bytes g.COff.Words.bytes c.args.kinds.now)))) (times 1 (take (c.args.range.«end» - c.args.range.start) (drop c.args.range.start (variants_of (forms_content g.CVar.Variants.bytes g.COff.Words.bytes c.args.kinds.now))))) c.rows_before-from_second.ensures (omega (arith, (times_range 1 c.args.range.start c.args.range.«end» (variants_of (forms_content g.CVar.Variants.bytes g.COff.Words.bytes c.args.kinds.now)) c.requires.ordered), c.rows_before-from_second.ensures, c.rows_before-to_second.ensures))) c.in-Err.ensures.err)

pub extend_variants-requires-clause-sound : goal.extend_variants-requires-clause-sound
extend_variants-requires-clause-sound g c = forms_sound g.SC.Column.format g.TC.Column.format c.requires.sound

pub extend_variants-requires-clause-view_sound : goal.extend_variants-requires-clause-view_sound
extend_variants-requires-clause-view_sound g c = forms_sound g.V.Column.format g.W.Column.format c.requires.view_sound

pub extend_variants-requires-clause-in_range : goal.extend_variants-requires-clause-in_range
extend_variants-requires-clause-in_range g c = omega (arith, c.requires.in_range, variants_count (dual_bank g.V.Column.format g.W.Column.format) (both (g.V.Column.content c.args.first_view) (g.W.Column.content c.args.second_view)) (forms_content g.CVar.Variants.bytes g.COff.Words.bytes c.args.kinds.now))

pub extend_variants-requires-clause-below : goal.extend_variants-requires-clause-below
extend_variants-requires-clause-below g c = (variants_parts (dual_bank g.V.Column.format g.W.Column.format) c.requires.view_sound).below

pub extend_variants-requires-clause-lengths : goal.extend_variants-requires-clause-lengths
extend_variants-requires-clause-lengths g c =
    let p = c.len-firsts_before.ensures ∙ variants_number (dual_bank g.SC.Column.format g.TC.Column.format) (dual_law g.SC.Column.format g.TC.Column.format) c.requires.sound 0 (omega arith) in
    let q = c.len-seconds_before.ensures ∙ variants_number (dual_bank g.SC.Column.format g.TC.Column.format) (dual_law g.SC.Column.format g.TC.Column.format) c.requires.sound 1 (omega arith) in
    two_at c.len-firsts_before.result c.len-seconds_before.result (λ v. times v (variants_of (owned_forms c.args.indexes.now.variant.items c.args.indexes.now.offset.items))) p q

pub extend_variants-requires-clause-firsts : goal.extend_variants-requires-clause-firsts
extend_variants-requires-clause-firsts g c = two_at c.rows_before-from_first.result c.rows_before-from_second.result (λ v. times v (take c.args.range.start (variants_of (forms_content g.CVar.Variants.bytes g.COff.Words.bytes c.args.kinds.now)))) c.rows_before-from_first.ensures c.rows_before-from_second.ensures

pub returns-clause-ok : goal.returns-clause-ok
returns-clause-ok g c = dual_copied g.SC.Column.format g.TC.Column.format g.V.Column.format g.W.Column.format {w = (forms_content g.CVar.Variants.bytes g.COff.Words.bytes c.args.kinds.now)} c.args.range.start c.args.range.«end» c.requires.sound c.requires.view_sound (copied_as c.rows_before-from_first.ensures (same_range (g.V.Column.format.rows (g.V.Column.content c.args.first_view)) c.rows_before-from_first.result c.rows_before-to_first.result (times 0 (take c.args.range.start (variants_of (forms_content g.CVar.Variants.bytes g.COff.Words.bytes c.args.kinds.now)))) (times 0 (take (c.args.range.«end» - c.args.range.start) (drop c.args.range.start (variants_of (forms_content g.CVar.Variants.bytes g.COff.Words.bytes c.args.kinds.now))))) c.rows_before-from_first.ensures (omega (arith, (times_range 0 c.args.range.start c.args.range.«end» (variants_of (forms_content g.CVar.Variants.bytes g.COff.Words.bytes c.args.kinds.now)) c.requires.ordered), c.rows_before-from_first.ensures, c.rows_before-to_first.ensures))) c.in_ok-extend_from_self.ensures.ok) (copied_as c.rows_before-from_second.ensures (same_range (g.W.Column.format.rows (g.W.Column.content c.args.second_view)) c.rows_before-from_second.result c.rows_before-to_second.result (times 1 (take c.args.range.start (variants_of (forms_content g.CVar.Variants.bytes g.COff.Words.bytes c.args.kinds.now)))) (times 1 (take (c.args.range.«end» - c.args.range.start) (drop c.args.range.start (variants_of (forms_content g.CVar.Variants.bytes g.COff.Words.bytes c.args.kinds.now))))) c.rows_before-from_second.ensures (omega (arith, (times_range 1 c.args.range.start c.args.range.«end» (variants_of (forms_content g.CVar.Variants.bytes g.COff.Words.bytes c.args.kinds.now)) c.requires.ordered), c.rows_before-from_second.ensures, c.rows_before-to_second.ensures))) c.in-Ok.ensures.ok) c.in-Ok-extend_variants.ensures.sound c.in-Ok-extend_variants.ensures.variants

pub returns-in-Err-extend_variants-clause-err : goal.returns-in-Err-extend_variants-clause-err
returns-in-Err-extend_variants-clause-err g c =
    let n = range_length (variants_of (forms_content g.CVar.Variants.bytes g.COff.Words.bytes c.args.kinds.now)) c.args.range.start (c.args.range.«end» - c.args.range.start) (omega (arith, c.requires.ordered, c.requires.in_range, variants_count (dual_bank g.V.Column.format g.W.Column.format) (both (g.V.Column.content c.args.first_view) (g.W.Column.content c.args.second_view)) (forms_content g.CVar.Variants.bytes g.COff.Words.bytes c.args.kinds.now))) in
    dual_refused_forms g.SC.Column.format g.TC.Column.format g.V.Column.format g.W.Column.format (g.V.Column.content c.args.first_view) (g.W.Column.content c.args.second_view) (forms_content g.CVar.Variants.bytes g.COff.Words.bytes c.args.kinds.now) c.args.range.start c.args.range.«end» c.requires.sound (undone g.met.SC.Truncate.lawful (firsts_sound g.SC.Column.format g.TC.Column.format c.requires.sound) c.in_ok-extend_from_self.ensures.ok.took.grew (rw c.len-firsts_before.ensures at c.truncate-in-Err-extend_variants.ensures.cut)) (undone g.met.TC.Truncate.lawful (seconds_sound g.SC.Column.format g.TC.Column.format c.requires.sound) c.in-Ok.ensures.ok.took.grew (rw c.len-seconds_before.ensures at c.truncate-in-Err-extend_variants-2.ensures.cut)) c.in-Err-extend_variants.ensures.stayed c.in-Err-extend_variants.ensures.variants_stay (λ rs l. c.in-Err-extend_variants.ensures.cause rs (l ∙ n))
