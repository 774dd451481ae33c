use Rattle.std.proofs.Common.{arith, sym, take, suc, ◌∙◌}
use Rattle.columnar_core.specs.Format.{both}
use Rattle.columnar_sums.specs.Discriminants.{owned_forms, variants_of, times}
use Rattle.columnar_sums.specs.DiscriminantLaws.{length-variant_rows}
use Rattle.columnar_variants.specs.Variants.{leaf}
use Rattle.columnar_variants.specs.Duals.{dual_bank}
use Rattle.columnar_variants.specs.DualLaws.{dual_law}
use Rattle.columnar_variants.specs.VariantLaws.{variants_parts, variants_count, variants_number, beside_parts}
use Rattle.columnar_variants.specs.VariantCutLaws.{variants_cut, join_cut, leaf_cut}
use Rattle.columnar_variants.proofs.dual.truncate_dual.Goals as goal

pub len-requires : goal.len-requires
len-requires g c = (beside_parts g.SC.Column.format g.TC.Column.format (variants_parts (dual_bank g.SC.Column.format g.TC.Column.format) c.requires.sound).parts).0

pub rows_before-first-requires-clause-sound : goal.rows_before-first-requires-clause-sound
rows_before-first-requires-clause-sound g c = (variants_parts (dual_bank g.SC.Column.format g.TC.Column.format) c.requires.sound).forms

pub rows_before-first-requires-clause-in_range : goal.rows_before-first-requires-clause-in_range
rows_before-first-requires-clause-in_range g c =
    let n = variants_count (dual_bank g.SC.Column.format g.TC.Column.format) (both (g.SC.Column.content c.args.firsts.now) (g.TC.Column.content c.args.seconds.now)) (owned_forms c.args.indexes.now.variant.items c.args.indexes.now.offset.items) in
    rw n at c.requires.in_range

pub len-requires-2 : goal.len-requires-2
len-requires-2 g c = (beside_parts g.SC.Column.format g.TC.Column.format (variants_parts (dual_bank g.SC.Column.format g.TC.Column.format) c.requires.sound).parts).1

pub rows_before-first-requires-clause-all : goal.rows_before-first-requires-clause-all
rows_before-first-requires-clause-all g c = c.len.ensures ∙ variants_number (dual_bank g.SC.Column.format g.TC.Column.format) (dual_law g.SC.Column.format g.TC.Column.format) c.requires.sound 0 (omega arith)

pub rows_before-second-requires-clause-all : goal.rows_before-second-requires-clause-all
rows_before-second-requires-clause-all g c = c.len-2.ensures ∙ variants_number (dual_bank g.SC.Column.format g.TC.Column.format) (dual_law g.SC.Column.format g.TC.Column.format) c.requires.sound 1 (omega arith)

pub rows_before-second-requires-clause-sound : goal.rows_before-second-requires-clause-sound
rows_before-second-requires-clause-sound g c = (variants_parts (dual_bank g.SC.Column.format g.TC.Column.format) c.requires.sound).forms

pub rows_before-second-requires-clause-in_range : goal.rows_before-second-requires-clause-in_range
rows_before-second-requires-clause-in_range g c =
    let n = variants_count (dual_bank g.SC.Column.format g.TC.Column.format) (both (g.SC.Column.content c.args.firsts.now) (g.TC.Column.content c.args.seconds.now)) (owned_forms c.args.indexes.now.variant.items c.args.indexes.now.offset.items) in
    rw n at c.requires.in_range

pub truncate-requires-clause-sound : goal.truncate-requires-clause-sound
truncate-requires-clause-sound g c = (beside_parts g.SC.Column.format g.TC.Column.format (variants_parts (dual_bank g.SC.Column.format g.TC.Column.format) c.requires.sound).parts).0

pub truncate-requires-2-clause-sound : goal.truncate-requires-2-clause-sound
truncate-requires-2-clause-sound g c = (beside_parts g.SC.Column.format g.TC.Column.format (variants_parts (dual_bank g.SC.Column.format g.TC.Column.format) c.requires.sound).parts).1

pub truncate-requires-3-clause-sound : goal.truncate-requires-3-clause-sound
truncate-requires-3-clause-sound g c = (variants_parts (dual_bank g.SC.Column.format g.TC.Column.format) c.requires.sound).forms

pub truncate-requires-3-clause-in_range : goal.truncate-requires-3-clause-in_range
truncate-requires-3-clause-in_range g c =
    let n = variants_count (dual_bank g.SC.Column.format g.TC.Column.format) (both (g.SC.Column.content c.args.firsts.now) (g.TC.Column.content c.args.seconds.now)) (owned_forms c.args.indexes.now.variant.items c.args.indexes.now.offset.items) in
    let m = length-variant_rows (variants_of (owned_forms c.args.indexes.now.variant.items c.args.indexes.now.offset.items)) in
    rw (n ∙ sym m) at c.requires.in_range

pub returns : goal.returns
returns g c =
    let vs = variants_of (owned_forms c.args.indexes.now.variant.items c.args.indexes.now.offset.items) in
    variants_cut (dual_bank g.SC.Column.format g.TC.Column.format) (dual_law g.SC.Column.format g.TC.Column.format) c.args.n c.requires.sound
    (join_cut g.SC.Column.format (leaf g.TC.Column.format) c.rows_before-first.result (λ v. times v (take c.args.n vs)) (sym c.rows_before-first.ensures) c.truncate.ensures.cut
    (leaf_cut g.TC.Column.format c.rows_before-second.result (λ v. times (suc v) (take c.args.n vs)) (sym c.rows_before-second.ensures) c.truncate-2.ensures.cut))
    c.truncate-3.ensures.cut.sound c.truncate-3.ensures.variants c.truncate-3.ensures.cut.lengths_cut
