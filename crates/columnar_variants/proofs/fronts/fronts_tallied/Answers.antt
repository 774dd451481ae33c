use Rattle.std.proofs.Common.{◌≡◌, ◌+◌, ◌<◌, ◌≤◌, refl, ◌∙◌, arith, length, ⊎_elim}
use Rattle.std.specs.Prelude.{slice_index}
use Rattle.std.proofs.lemmas.Bool.{cases_lt}
use Rattle.columnar_sums.specs.Discriminants.{forms_content, variants_of}
use Rattle.columnar_sums.specs.DiscriminantLaws.{length-variant_rows}
use Rattle.columnar_variants.specs.VariantLaws.{variants_parts}
use Rattle.columnar_variants.specs.FrontTotalLaws.{fronts_begin, fronts_sole, fronts_none_left, fronts_at_end, found_left, fronts_found, fronts_later}
use Rattle.columnar_variants.proofs.fronts.fronts_tallied.Goals as goal

pub homogeneous-requires : goal.homogeneous-requires
homogeneous-requires g c = (variants_parts g.B.ColumnBank.bank c.requires.sound).forms

pub returns-in-Some-clause-fronts : goal.returns-in-Some-clause-fronts
returns-in-Some-clause-fronts g c = rw c.set_front.ensures (fronts_sole c.in-Some.kind c.args.n (variants_of (forms_content g.CVar.Variants.bytes g.COff.Words.bytes c.args.indexes.now)) c.all_rows-fronts.result c.requires.in_range (omega arith) c.all_rows-fronts.ensures.size c.in-Some.ensures.next c.all_rows-fronts.ensures.all)

pub len-rows-requires : goal.len-rows-requires
len-rows-requires g c = (variants_parts g.B.ColumnBank.bank c.requires.sound).forms

pub overflow_sub-left : goal.overflow_sub-left
overflow_sub-left g c = let m = length-variant_rows (variants_of (forms_content g.CVar.Variants.bytes g.COff.Words.bytes c.args.indexes.now)) in omega (arith, m, c.len-rows.ensures, c.requires.in_range)

pub loop-index-init : goal.loop-index-init
loop-index-init g c =
    let vs = variants_of (forms_content g.CVar.Variants.bytes g.COff.Words.bytes c.args.indexes.now) in
    let m : c.len-rows.result ≡ length vs = c.len-rows.ensures ∙ length-variant_rows vs in
    let q = c.requires.in_range in
    record { fronts = fronts_begin c.args.n _ vs c.all_rows-fronts.result c.all_rows-fronts.ensures.size (omega (arith, m, q)) c.hold_bytes.ensures c.all_rows-fronts.ensures.all; turns = refl }

pub returns-then-left-eq0-clause-fronts : goal.returns-then-left-eq0-clause-fronts
returns-then-left-eq0-clause-fronts g c = fronts_none_left c.args.n c.loop-index.index c.loop-index.left (variants_of (forms_content g.CVar.Variants.bytes g.COff.Words.bytes c.args.indexes.now)) c.loop-index.fronts c.requires.in_range c.if-left-eq0.true c.hold_bytes.ensures c.loop-index.invariant.fronts

pub returns-then-left-eq0-clause-turns : goal.returns-then-left-eq0-clause-turns
returns-then-left-eq0-clause-turns g c = let m = length-variant_rows (variants_of (forms_content g.CVar.Variants.bytes g.COff.Words.bytes c.args.indexes.now)) in omega (arith, m, c.len-rows.ensures, c.loop-index.invariant.turns, c.loop-index-test.true)

pub get-kind-requires-clause-sound : goal.get-kind-requires-clause-sound
get-kind-requires-clause-sound g c = (variants_parts g.B.ColumnBank.bank c.requires.sound).forms

pub correct-left-requires-clause-enough : goal.correct-left-requires-clause-enough
correct-left-requires-clause-enough g c = ⊎_elim
    (λ (l : c.get-kind.result.1 < slice_index c.loop-index.fronts c.get-kind.result.0). found_left c.args.n c.loop-index.index c.loop-index.left c.get-kind.result.0 c.get-kind.result.1 (variants_of (forms_content g.CVar.Variants.bytes g.COff.Words.bytes c.args.indexes.now)) c.loop-index.fronts c.loop-index.auto.index c.requires.in_range c.hold_bytes.ensures c.get-kind.ensures.variant c.get-kind.ensures.earlier l c.loop-index.invariant.fronts)
    (λ (l : slice_index c.loop-index.fronts c.get-kind.result.0 ≤ c.get-kind.result.1). omega (arith, l))
    (cases_lt c.get-kind.result.1 (slice_index c.loop-index.fronts c.get-kind.result.0))

pub loop-index-preserved : goal.loop-index-preserved
loop-index-preserved g c = record {
  fronts = ⊎_elim
      (λ (l : c.get-kind.result.1 < slice_index c.loop-index.fronts c.get-kind.result.0).
      let e = c.correct-left.ensures.first l in
      rw e.0 (fronts_found c.args.n c.loop-index.index c.loop-index.left c.get-kind.result.0 c.get-kind.result.1 (variants_of (forms_content g.CVar.Variants.bytes g.COff.Words.bytes c.args.indexes.now)) c.loop-index.fronts c.loop-index.auto.index c.requires.in_range c.hold_bytes.ensures c.get-kind.ensures.variant c.get-kind.ensures.earlier l c.loop-index.invariant.fronts c.correct-left.result e.1))
      (λ (l : slice_index c.loop-index.fronts c.get-kind.result.0 ≤ c.get-kind.result.1).
      let e = c.correct-left.ensures.later l in
      rw (e.0, e.1) (fronts_later c.args.n c.loop-index.index c.loop-index.left c.get-kind.result.0 c.get-kind.result.1 (variants_of (forms_content g.CVar.Variants.bytes g.COff.Words.bytes c.args.indexes.now)) c.loop-index.fronts c.get-kind.ensures.variant c.get-kind.ensures.earlier l c.loop-index.invariant.fronts))
      (cases_lt c.get-kind.result.1 (slice_index c.loop-index.fronts c.get-kind.result.0));
  turns = omega (arith, c.loop-index.invariant.turns, c.tick.ensures.turns);
}

pub returns-clause-fronts : goal.returns-clause-fronts
returns-clause-fronts g c =
    let m = length-variant_rows (variants_of (forms_content g.CVar.Variants.bytes g.COff.Words.bytes c.args.indexes.now)) in
    fronts_at_end c.args.n c.loop-index.index c.loop-index.left (variants_of (forms_content g.CVar.Variants.bytes g.COff.Words.bytes c.args.indexes.now)) c.loop-index.fronts (omega (arith, m, c.len-rows.ensures, c.loop-index-test.false, c.loop-index.auto.index-end, c.requires.in_range)) c.hold_bytes.ensures c.loop-index.invariant.fronts

pub returns-clause-turns : goal.returns-clause-turns
returns-clause-turns g c =
    let m = length-variant_rows (variants_of (forms_content g.CVar.Variants.bytes g.COff.Words.bytes c.args.indexes.now)) in
    omega (arith, m, c.len-rows.ensures, c.loop-index.invariant.turns, c.loop-index-test.false, c.loop-index.auto.index-end, c.requires.in_range)
