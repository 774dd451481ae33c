use Rattle.std.proofs.Common.{◌≡◌, ◌+◌, ◌∷◌, [], suc, length, drop, refl, ap, subst, arith}
use Rattle.columnar_base.specs.ChangeLaws.{passed_on}
use Rattle.columnar_core.specs.Faults.{fault_of}
use Rattle.columnar_core.specs.Store.{slices_in}
use Rattle.columnar_sums.specs.Discriminants.{forms_content, variants_of, times}
use Rattle.columnar_core.specs.WordViews.{view_bytes}
use Rattle.columnar_variants.specs.Variants.{leaf}
use Rattle.columnar_variants.specs.Duals.{dual_bank, slice_bytes}
use Rattle.columnar_variants.specs.VariantByteLaws.{variants_sides_at, variants_forms_at, variants_own_at, beside_fault_at, beside_fine_at, join_told_at, leaf_told}
use Rattle.columnar_variants.specs.DualLaws.{firsts_representable, seconds_representable}
use Rattle.columnar_variants.proofs.dual.bytes.judge_dual.Goals as goal

pub judge_two-requires-clause-left : goal.judge_two-requires-clause-left
judge_two-requires-clause-left g c = firsts_representable g.SC.Column.format g.TC.Column.format c.requires.representable

pub judge_two-requires-clause-right : goal.judge_two-requires-clause-right
judge_two-requires-clause-right g c = seconds_representable g.SC.Column.format g.TC.Column.format c.requires.representable

pub slice_count-firsts-requires : goal.slice_count-firsts-requires
slice_count-firsts-requires g c = firsts_representable g.SC.Column.format g.TC.Column.format c.requires.representable

pub slice_count-requires : goal.slice_count-requires
slice_count-requires g c = seconds_representable g.SC.Column.format g.TC.Column.format c.requires.representable

pub rows_in-requires-clause-representable : goal.rows_in-requires-clause-representable
rows_in-requires-clause-representable g c = firsts_representable g.SC.Column.format g.TC.Column.format c.requires.representable

pub rows_in-requires-2-clause-representable : goal.rows_in-requires-2-clause-representable
rows_in-requires-2-clause-representable g c = seconds_representable g.SC.Column.format g.TC.Column.format c.requires.representable

pub returns-in_err-judge_two-clause-exact : goal.returns-in_err-judge_two-clause-exact
returns-in_err-judge_two-clause-exact g c =
    let a = g.SC.Column.format in
    let b = g.TC.Column.format in
    let ss = slices_in c.args.store.now in
    let o = c.args.offset in
    let z = fault_of c.in_err-judge_two.field-0.0 in
    rw (passed_on c.from_residual.result c.from_residual.ensures.1) (variants_sides_at (dual_bank a b) ss o z (beside_fault_at a b ss o z c.in_err-judge_two.ensures.exact))

pub returns-in_err-judge_tallied-clause-exact : goal.returns-in_err-judge_tallied-clause-exact
returns-in_err-judge_tallied-clause-exact g c =
    let a = g.SC.Column.format in
    let b = g.TC.Column.format in
    let ss = slices_in c.args.store.now in
    let o = c.args.offset in
    let z = fault_of c.in_err-judge_tallied.field-0.0 in
    let m : c.slice_count-firsts.result + c.slice_count.result ≡ a.count + b.count = omega (arith, c.slice_count-firsts.ensures, c.slice_count.ensures) in
    rw (passed_on c.from_residual-in_err-judge_tallied.result c.from_residual-in_err-judge_tallied.ensures.1) (variants_forms_at (dual_bank a b) ss o (o + (c.slice_count-firsts.result + c.slice_count.result)) z (ap (λ k. o + k) m) (beside_fine_at a b ss o c.in_ok-judge_two.ensures.exact) c.in_err-judge_tallied.ensures.exact)

pub returns-clause-exact : goal.returns-clause-exact
returns-clause-exact g c =
    let a = g.SC.Column.format in
    let b = g.TC.Column.format in
    let ss = slices_in c.args.store.now in
    let o = c.args.offset in
    let n = o + (c.slice_count-firsts.result + c.slice_count.result) in
    let m : c.slice_count-firsts.result + c.slice_count.result ≡ a.count + b.count = omega (arith, c.slice_count-firsts.ensures, c.slice_count.ensures) in
    let y = forms_content slice_bytes view_bytes c.from_store-indexes.result in
    let vs = variants_of y in
    variants_own_at (dual_bank a b) ss o n y _ _ _ (ap (λ k. o + k) m) c.from_store-indexes.ensures.content (beside_fine_at a b ss o c.in_ok-judge_two.ensures.exact) c.in_ok-judge_tallied.ensures.exact refl
    (join_told_at a (leaf b) ss o c.rows_in.result (c.rows_in-2.result ∷ []) (λ k. times k vs) c.rows_in.ensures (leaf_told b (b.build (drop (o + a.count) ss)) (λ k. times (suc k) vs) c.rows_in-2.result (subst (λ k. c.rows_in-2.result ≡ length (b.rows (b.build (drop (o + k) ss)))) c.slice_count-firsts.ensures c.rows_in-2.ensures)))
    c.judge_counts.ensures.exact
