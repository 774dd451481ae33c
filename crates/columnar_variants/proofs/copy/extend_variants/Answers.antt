use Rattle.std.proofs.Common.{◌≡◌, ◌-◌, ◌++◌, ◌∷◌, [], ◌∙◌, sym, ap, arith, refl, length, take, drop, append_assoc, replicate}
use Rattle.std.proofs.lemmas.Result.{on_ok_weaker}
use Rattle.std.proofs.Math.Seq.{take-append_seam}
use Rattle.columnar_core.specs.ChangeLaws.{took_none, took_twice, undone, grew_stayed}
use Rattle.columnar_sums.specs.Discriminants.{forms_content, owned_forms, variants_of, times}
use Rattle.columnar_sums.specs.DiscriminantLaws.{discriminant_lawful, length-variant_rows, times_most}
use Rattle.columnar_variants.specs.VariantCopyLaws.{variants_cause}
use Rattle.columnar_variants.specs.VariantRunLaws.{sole_below, run_range}
use Rattle.columnar_variants.specs.VariantListLaws.{none_taken, below_get, times_range, place_in, next_taken, taken_length}
use Rattle.columnar_variants.proofs.copy.extend_variants.Goals as goal

pub bounds-lengths-kind : goal.bounds-lengths-kind
bounds-lengths-kind g c = sole_below (length c.args.lengths.now) c.in-Some.kind (variants_of (forms_content g.CVar.Variants.bytes g.COff.Words.bytes c.args.view.now)) c.requires.below c.in-Some.ensures.sole

pub returns-in-Some-clause-variants : goal.returns-in-Some-clause-variants
returns-in-Some-clause-variants g c =
    let vs = variants_of (owned_forms c.args.indexes.now.variant.items c.args.indexes.now.offset.items) in
    let ws = variants_of (forms_content g.CVar.Variants.bytes g.COff.Words.bytes c.args.view.now) in
    on_ok_weaker c.push_variants.result (λ (e : variants_of (owned_forms c.push_variants.new.indexes.variant.items c.push_variants.new.indexes.offset.items) ≡ vs ++ replicate (c.args.«end» - c.args.start) c.in-Some.kind). e ∙ ap (λ us. vs ++ us) (run_range c.in-Some.kind c.args.start c.args.«end» ws c.in-Some.ensures.next c.requires.ordered c.requires.in_range)) c.push_variants.ensures.variants

pub loop-index-init : goal.loop-index-init
loop-index-init g c = record {
  sound = c.requires.sound;
  variants = none_taken c.args.start (variants_of (owned_forms c.args.indexes.now.variant.items c.args.indexes.now.offset.items)) (variants_of (forms_content g.CVar.Variants.bytes g.COff.Words.bytes c.args.view.now));
  took = ([], took_none c.requires.sound);
}

pub get-variant-requires-clause-in_range : goal.get-variant-requires-clause-in_range
get-variant-requires-clause-in_range g c = omega (arith, c.loop-index-test.true, c.requires.in_range, length-variant_rows (variants_of (forms_content g.CVar.Variants.bytes g.COff.Words.bytes c.args.view.now)))

pub bounds-lengths-column : goal.bounds-lengths-column
bounds-lengths-column g c = below_get (length c.args.lengths.now) (variants_of (forms_content g.CVar.Variants.bytes g.COff.Words.bytes c.args.view.now)) c.loop-index.index c.get-variant.result.0 c.requires.below c.get-variant.ensures.variant

pub bounds-firsts-column : goal.bounds-firsts-column
bounds-firsts-column g c = omega (arith, c.requires.level, below_get (length c.args.lengths.now) (variants_of (forms_content g.CVar.Variants.bytes g.COff.Words.bytes c.args.view.now)) c.loop-index.index c.get-variant.result.0 c.requires.below c.get-variant.ensures.variant)

pub overflow_sub-offset : goal.overflow_sub-offset
overflow_sub-offset g c =
    let ws = variants_of (forms_content g.CVar.Variants.bytes g.COff.Words.bytes c.args.view.now) in
    let v = c.get-variant.result.0 in
    let f = c.requires.firsts v (below_get (length c.args.lengths.now) ws c.loop-index.index v c.requires.below c.get-variant.ensures.variant) in
    omega (arith, f, c.get-variant.ensures.earlier, times_range v c.args.start c.loop-index.index ws c.loop-index.auto.index)

pub overflow_add-offset : goal.overflow_add-offset
overflow_add-offset g c =
    let vs = variants_of (owned_forms c.args.indexes.now.variant.items c.args.indexes.now.offset.items) in
    let us = variants_of (owned_forms c.loop-index.indexes.variant.items c.loop-index.indexes.offset.items) in
    let ws = variants_of (forms_content g.CVar.Variants.bytes g.COff.Words.bytes c.args.view.now) in
    let v = c.get-variant.result.0 in
    let b = below_get (length c.args.lengths.now) ws c.loop-index.index v c.requires.below c.get-variant.ensures.variant in
    let f = c.requires.firsts v b in
    let l = c.requires.lengths v b in
    let p = place_in v c.args.start c.loop-index.index vs ws c.loop-index.auto.index in
    let e = ap (times v) c.loop-index.invariant.variants in
    let m = times_most v us in
    let n = length-variant_rows us in
    omega (arith, f, l, p, e, m, n, c.get-variant.ensures.earlier, c.len-rows.ensures, c.len-rows.type_inv)

pub push-requires-clause-numbered : goal.push-requires-clause-numbered
push-requires-clause-numbered g c =
    let vs = variants_of (owned_forms c.args.indexes.now.variant.items c.args.indexes.now.offset.items) in
    let ws = variants_of (forms_content g.CVar.Variants.bytes g.COff.Words.bytes c.args.view.now) in
    let v = c.get-variant.result.0 in
    let b = below_get (length c.args.lengths.now) ws c.loop-index.index v c.requires.below c.get-variant.ensures.variant in
    let f = c.requires.firsts v b in
    let l = c.requires.lengths v b in
    let p = place_in v c.args.start c.loop-index.index vs ws c.loop-index.auto.index in
    let e = ap (times v) c.loop-index.invariant.variants in
    let r = times_range v c.args.start c.loop-index.index ws c.loop-index.auto.index in
    omega (arith, f, l, p, e, r, c.get-variant.ensures.earlier)

pub returns-in-Err-clause-stayed : goal.returns-in-Err-clause-stayed
returns-in-Err-clause-stayed g c = undone discriminant_lawful c.requires.sound (grew_stayed c.loop-index.invariant.took.1.grew c.in-Err.ensures.err.stayed) (rw c.len-before.ensures at c.truncate.ensures.cut)

pub returns-in-Err-clause-variants_stay : goal.returns-in-Err-clause-variants_stay
returns-in-Err-clause-variants_stay g c =
    let vs = variants_of (owned_forms c.args.indexes.now.variant.items c.args.indexes.now.offset.items) in
    let ws = variants_of (forms_content g.CVar.Variants.bytes g.COff.Words.bytes c.args.view.now) in
    let us = variants_of (owned_forms c.loop-index.indexes.variant.items c.loop-index.indexes.offset.items) in
    let rest = take (c.loop-index.index - c.args.start) (drop c.args.start ws) in
    let k : variants_of (owned_forms c.push.new.self.variant.items c.push.new.self.offset.items) ≡ us = rw (c.in-Err.ensures.variants_stay, c.in-Err.ensures.offsets_stay) refl in
    let n : c.len-before.result ≡ length vs = c.len-before.ensures ∙ length-variant_rows vs in
    c.truncate.ensures.variants ∙ (ap (take c.len-before.result) (k ∙ c.loop-index.invariant.variants) ∙ (ap (λ m. take m (vs ++ rest)) n ∙ take-append_seam vs rest))

pub returns-in-Err-clause-cause : goal.returns-in-Err-clause-cause
returns-in-Err-clause-cause g c =
    let vs = variants_of (owned_forms c.args.indexes.now.variant.items c.args.indexes.now.offset.items) in
    let ws = variants_of (forms_content g.CVar.Variants.bytes g.COff.Words.bytes c.args.view.now) in
    let a = c.loop-index.auto.index in
    let b = c.loop-index-test.true in
    let d = c.requires.in_range in
    λ rs l. variants_cause (owned_forms c.args.indexes.now.variant.items c.args.indexes.now.offset.items) (owned_forms c.loop-index.indexes.variant.items c.loop-index.indexes.offset.items) _ rs (c.loop-index.index - c.args.start) c.in-Err.error (ap length c.loop-index.invariant.variants ∙ taken_length c.args.start c.loop-index.index vs ws a (omega (arith, b, d))) (omega (arith, l, a, b)) c.in-Err.ensures.err.cause

pub loop-index-preserved : goal.loop-index-preserved
loop-index-preserved g c =
    let vs = variants_of (owned_forms c.args.indexes.now.variant.items c.args.indexes.now.offset.items) in
    let ws = variants_of (forms_content g.CVar.Variants.bytes g.COff.Words.bytes c.args.view.now) in
    let rest = take (c.loop-index.index - c.args.start) (drop c.args.start ws) in
    let v = c.get-variant.result.0 in
    record {
      sound = c.in-Ok.ensures.ok.grew.sound;
      variants = c.in-Ok.ensures.variants ∙ (ap (λ us. us ++ v ∷ []) c.loop-index.invariant.variants ∙ (append_assoc vs rest (v ∷ []) ∙ ap (λ us. vs ++ us) (sym (next_taken c.args.start c.loop-index.index v ws c.loop-index.auto.index c.get-variant.ensures.variant))));
      took = (_, took_twice c.loop-index.invariant.took.1 c.in-Ok.ensures.ok);
    }
