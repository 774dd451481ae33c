use Rattle.std.proofs.Common.{refl, sym, ◌∙◌, ap, arith, length}
use Rattle.std.specs.Prelude.{slice_index}
use Rattle.std.proofs.lemmas.List.{length-set}
use Rattle.columnar_sums.specs.Discriminants.{forms_content, variants_of, times}
use Rattle.columnar_variants.specs.VariantLaws.{variants_parts, variants_number}
use Rattle.columnar_variants.specs.VariantListLaws.{times_of_all}
use Rattle.columnar_variants.specs.FrontLaws.{zeros_at, fronts_more, fronts_left, fronts_all, at_within}
use Rattle.columnar_variants.proofs.fronts.all_rows.Goals as goal

pub hold_bytes-requires : goal.hold_bytes-requires
hold_bytes-requires g c = (variants_parts g.B.ColumnBank.bank c.requires).forms

pub loop-variant-init : goal.loop-variant-init
loop-variant-init g c = record { size = refl; done = λ v l. absurd (omega (arith, l)); left = λ v l. zeros_at 256 v }

pub values_of-all-requires-clause-sound : goal.values_of-all-requires-clause-sound
values_of-all-requires-clause-sound g c = (variants_parts g.B.ColumnBank.bank c.requires).parts

pub values_of-all-requires-clause-known : goal.values_of-all-requires-clause-known
values_of-all-requires-clause-known g c = (omega (arith, c.loop-variant-test.true, (at_within g.B.ColumnBank.bank.size c.columns-variant-end.result c.columns-variant-end.ensures.few c.columns-variant-end.ensures.many).0))

pub set_front-requires : goal.set_front-requires
set_front-requires g c = (omega (arith, c.loop-variant-test.true, (at_within g.B.ColumnBank.bank.size c.columns-variant-end.result c.columns-variant-end.ensures.few c.columns-variant-end.ensures.many).1))

pub loop-variant-preserved : goal.loop-variant-preserved
loop-variant-preserved g c =
    let q = at_within g.B.ColumnBank.bank.size c.columns-variant-end.result c.columns-variant-end.ensures.few c.columns-variant-end.ensures.many in
    let k = c.loop-variant.invariant.size in
    record {
      size = ap length c.set_front.ensures ∙ (length-set c.loop-variant.fronts c.loop-variant.variant _ ∙ c.loop-variant.invariant.size);
      done = λ v l. ap (λ fs. slice_index fs v) c.set_front.ensures ∙ fronts_more c.loop-variant.fronts c.loop-variant.variant c.values_of-all.result (λ w. times w (variants_of (forms_content g.CVar.Variants.bytes g.COff.Words.bytes c.args.indexes.now))) (let r = q.1 in omega (arith, c.loop-variant-test.true, k, r)) (c.values_of-all.ensures ∙ variants_number g.B.ColumnBank.bank g.met.B.ColumnBank.is_bank c.requires c.loop-variant.variant (let r = q.0 in omega (arith, c.loop-variant-test.true, r))) c.loop-variant.invariant.done v l;
      left = λ v l. ap (λ fs. slice_index fs v) c.set_front.ensures ∙ fronts_left c.loop-variant.fronts c.loop-variant.variant c.values_of-all.result c.loop-variant.invariant.left v l;
    }

pub returns-clause-all : goal.returns-clause-all
returns-clause-all g c =
    let vs = variants_of (forms_content g.CVar.Variants.bytes g.COff.Words.bytes c.args.indexes.now) in
    λ v. fronts_all g.B.ColumnBank.bank.size c.columns-variant-end.result (length vs) vs c.loop-variant.fronts c.columns-variant-end.ensures.few c.columns-variant-end.ensures.many (variants_parts g.B.ColumnBank.bank c.requires).below c.hold_bytes.ensures (λ w l. c.loop-variant.invariant.done w (omega (arith, l, c.loop-variant-test.false)) ∙ sym (times_of_all w (length vs) vs refl)) (λ w l. c.loop-variant.invariant.left w (omega (arith, l, c.loop-variant.auto.variant-end))) v ∙ times_of_all v (length vs) vs refl
