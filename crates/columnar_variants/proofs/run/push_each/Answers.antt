use Rattle.std.proofs.Common.{◌≡◌, ◌+◌, ◌++◌, ◌∷◌, [], ◌∙◌, sym, ap, arith, refl, length, take, replicate, append-nil, append_assoc, length-append}
use Rattle.std.proofs.lemmas.List.{replicate_more, length-replicate}
use Rattle.std.proofs.Math.Seq.{take-append_seam}
use Rattle.columnar_core.specs.ChangeLaws.{took_none, took_twice, undone, grew_stayed}
use Rattle.columnar_sums.specs.Discriminants.{owned_forms, variants_of, times}
use Rattle.columnar_sums.specs.DiscriminantLaws.{discriminant_lawful, length-variant_rows, times-append, times-replicate}
use Rattle.columnar_variants.specs.VariantCopyLaws.{variants_cause}
use Rattle.columnar_variants.proofs.run.push_each.Goals as goal

pub loop-at-init : goal.loop-at-init
loop-at-init c =
    let vs = variants_of (owned_forms c.args.indexes.now.variant.items c.args.indexes.now.offset.items) in
    rw (c.in_ok-reserve_room.ensures.variants_stay, c.in_ok-reserve_room.ensures.offsets_stay) (record {
      sound = c.requires.sound;
      variants = sym (append-nil vs);
      took = ([], took_none c.requires.sound);
    })

pub push-requires-clause-numbered : goal.push-requires-clause-numbered
push-requires-clause-numbered c =
    let vs = variants_of (owned_forms c.args.indexes.now.variant.items c.args.indexes.now.offset.items) in
    let v = c.args.variant in
    let e = ap (times v) c.loop-at.invariant.variants in
    let a = times-append v vs (replicate c.loop-at.at v) in
    let r = times-replicate v c.loop-at.at in
    omega (arith, e, a, r, c.requires.numbered)

pub returns-in-Err-clause-stayed : goal.returns-in-Err-clause-stayed
returns-in-Err-clause-stayed c = undone discriminant_lawful c.requires.sound (grew_stayed c.loop-at.invariant.took.1.grew c.in-Err.ensures.err.stayed) (rw c.len-before.ensures at c.truncate.ensures.cut)

pub returns-in-Err-clause-variants_stay : goal.returns-in-Err-clause-variants_stay
returns-in-Err-clause-variants_stay c =
    let vs = variants_of (owned_forms c.args.indexes.now.variant.items c.args.indexes.now.offset.items) in
    let us = variants_of (owned_forms c.loop-at.indexes.variant.items c.loop-at.indexes.offset.items) in
    let rest = replicate c.loop-at.at c.args.variant in
    let k : variants_of (owned_forms c.push.new.self.variant.items c.push.new.self.offset.items) ≡ us = rw (c.in-Err.ensures.variants_stay, c.in-Err.ensures.offsets_stay) refl in
    let n : c.len-before.result ≡ length vs = c.len-before.ensures ∙ length-variant_rows vs in
    c.truncate.ensures.variants ∙ (ap (take c.len-before.result) (k ∙ c.loop-at.invariant.variants) ∙ (ap (λ m. take m (vs ++ rest)) n ∙ take-append_seam vs rest))

pub returns-in-Err-clause-cause : goal.returns-in-Err-clause-cause
returns-in-Err-clause-cause c =
    let vs = variants_of (owned_forms c.args.indexes.now.variant.items c.args.indexes.now.offset.items) in
    let b = c.loop-at-test.true in
    let v = c.args.variant in
    let e : length (vs ++ replicate c.loop-at.at v) ≡ length vs + c.loop-at.at = length-append vs (replicate c.loop-at.at v) ∙ ap (λ k. length vs + k) (length-replicate c.loop-at.at v) in
    λ rs l. variants_cause (owned_forms c.args.indexes.now.variant.items c.args.indexes.now.offset.items) (owned_forms c.loop-at.indexes.variant.items c.loop-at.indexes.offset.items) _ rs c.loop-at.at c.in-Err.error (ap length c.loop-at.invariant.variants ∙ e) (omega (arith, l, b)) c.in-Err.ensures.err.cause

pub loop-at-preserved : goal.loop-at-preserved
loop-at-preserved c =
    let vs = variants_of (owned_forms c.args.indexes.now.variant.items c.args.indexes.now.offset.items) in
    let v = c.args.variant in
    record {
      sound = c.in-Ok.ensures.ok.grew.sound;
      variants = c.in-Ok.ensures.variants ∙ (ap (λ us. us ++ v ∷ []) c.loop-at.invariant.variants ∙ (append_assoc vs (replicate c.loop-at.at v) (v ∷ []) ∙ ap (λ us. vs ++ us) (replicate_more c.loop-at.at v)));
      took = (_, took_twice c.loop-at.invariant.took.1 c.in-Ok.ensures.ok);
    }
