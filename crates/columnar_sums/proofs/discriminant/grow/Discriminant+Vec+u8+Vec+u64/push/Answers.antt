use Rattle.std.proofs.Common.{ℕ, ◌≡◌, ◌-◌, ◌++◌, ◌∷◌, [], replicate, arith, ap, sym, ◌∙◌}
use Rattle.std.specs.List.{range_with_len}
use Rattle.columnar_core.specs.WordViewLaws.{length-le_bytes}
use Rattle.columnar_sums.specs.Discriminants.{owned_forms, variants_of}
use Rattle.columnar_sums.specs.DiscriminantLaws.{length-variant_rows}
use Rattle.columnar_sums.specs.FormLaws.{holds_first, holds_more, holds_same, holds_other, took_held, sole_of_two, two_words_of}
use Rattle.columnar_sums.specs.MarkedLaws.{on_ok_both}
use Rattle.columnar_sums.proofs.discriminant.grow.Discriminant+Vec+u8+Vec+u64.push.Goals as goal

pub returns-then-rows-clause-no_memory : goal.returns-then-rows-clause-no_memory
returns-then-rows-clause-no_memory c = λ l s. absurd (omega (arith, l, (length-variant_rows (variants_of (owned_forms c.args.self.now.variant.items c.args.self.now.offset.items))), c.if-rows.true, c.len-rows.ensures))

pub returns-then-len-gt0-clause-ok : goal.returns-then-len-gt0-clause-ok
returns-then-len-gt0-clause-ok c =
    let h = holds_more c.args.self.now.variant.items c.args.self.now.offset.items c.args.variant c.args.offset c.requires.sound (omega (arith, c.if-len-gt0.true, c.len.ensures)) (omega (arith, c.ranges.offset)) c.requires.numbered in
    on_ok_both c.push_both.result (λ (p : c.push_both.new.variants.items ≡ c.args.self.now.variant.items ++ c.args.variant ∷ []) (q : c.push_both.new.offsets.items ≡ c.args.self.now.offset.items ++ c.args.offset ∷ []). rw (p, q) (took_held c.args.self.now.variant.items c.args.self.now.offset.items _ _ c.args.variant c.args.offset c.requires.numbered h)) c.push_both.ensures.variants c.push_both.ensures.offsets

pub returns-in_err-extend_from_slice-clause-full :
    goal.returns-in_err-extend_from_slice-clause-full
returns-in_err-extend_from_slice-clause-full c = λ e. absurd (omega (arith, e, (length-variant_rows (variants_of (owned_forms c.args.self.now.variant.items c.args.self.now.offset.items))), c.if-rows-eq0.true, c.len-rows.ensures))

pub returns-then-rows-eq0-clause-ok : goal.returns-then-rows-eq0-clause-ok
returns-then-rows-eq0-clause-ok c =
    let h = holds_first c.args.self.now.variant.items c.args.self.now.offset.items c.extend_from_slice.new.self.items c.args.variant c.requires.sound (omega (arith, c.if-len-gt0.false, c.len.ensures)) (omega (arith, (length-variant_rows (variants_of (owned_forms c.args.self.now.variant.items c.args.self.now.offset.items))), c.if-rows-eq0.true, c.len-rows.ensures)) (omega (arith, c.ranges.variant)) c.in_ok-extend_from_slice.ensures.items in
    took_held c.args.self.now.variant.items c.args.self.now.offset.items c.args.self.now.variant.items c.extend_from_slice.new.self.items c.args.variant c.args.offset c.requires.numbered h

pub returns-then-rows-eq0-clause-variants : goal.returns-then-rows-eq0-clause-variants
returns-then-rows-eq0-clause-variants c = (holds_first c.args.self.now.variant.items c.args.self.now.offset.items c.extend_from_slice.new.self.items c.args.variant c.requires.sound (omega (arith, c.if-len-gt0.false, c.len.ensures)) (omega (arith, (length-variant_rows (variants_of (owned_forms c.args.self.now.variant.items c.args.self.now.offset.items))), c.if-rows-eq0.true, c.len-rows.ensures)) (omega (arith, c.ranges.variant)) c.in_ok-extend_from_slice.ensures.items).variants

pub returns-then-rows-eq0-clause-full : goal.returns-then-rows-eq0-clause-full
returns-then-rows-eq0-clause-full c = λ e. absurd (omega (arith, e, (length-variant_rows (variants_of (owned_forms c.args.self.now.variant.items c.args.self.now.offset.items))), c.if-rows-eq0.true, c.len-rows.ensures))

pub word-requires : goal.word-requires
word-requires c =
    let t = two_words_of c.requires.sound (omega (arith, c.if-len-gt0.false, c.len.ensures)) (omega (arith, (length-variant_rows (variants_of (owned_forms c.args.self.now.variant.items c.args.self.now.offset.items))), c.if-rows-eq0.false, c.len-rows.ensures)) in
    omega (arith, t.two, length-le_bytes c.args.self.now.offset.items)

pub overflow_sub-kind : goal.overflow_sub-kind
overflow_sub-kind c =
    let t = two_words_of c.requires.sound (omega (arith, c.if-len-gt0.false, c.len.ensures)) (omega (arith, (length-variant_rows (variants_of (owned_forms c.args.self.now.variant.items c.args.self.now.offset.items))), c.if-rows-eq0.false, c.len-rows.ensures)) in
    omega (arith, t.least, c.word.ensures)

pub overflow_cast-kind : goal.overflow_cast-kind
overflow_cast-kind c =
    let t = two_words_of c.requires.sound (omega (arith, c.if-len-gt0.false, c.len.ensures)) (omega (arith, (length-variant_rows (variants_of (owned_forms c.args.self.now.variant.items c.args.self.now.offset.items))), c.if-rows-eq0.false, c.len-rows.ensures)) in
    omega (arith, t.least, t.most, c.word.ensures)

pub mix-requires-clause-two : goal.mix-requires-clause-two
mix-requires-clause-two c = (two_words_of c.requires.sound (omega (arith, c.if-len-gt0.false, c.len.ensures)) (omega (arith, (length-variant_rows (variants_of (owned_forms c.args.self.now.variant.items c.args.self.now.offset.items))), c.if-rows-eq0.false, c.len-rows.ensures))).two

pub returns-then-kind-variant-clause-ok : goal.returns-then-kind-variant-clause-ok
returns-then-kind-variant-clause-ok c =
    let n = (length-variant_rows (variants_of (owned_forms c.args.self.now.variant.items c.args.self.now.offset.items))) in
    let h = holds_other c.args.self.now.variant.items c.args.self.now.offset.items (c.word.result - 1) c.args.variant c.len-rows.result c.requires.sound (omega (arith, c.if-len-gt0.false, c.len.ensures)) (omega (arith, n, c.len-rows.ensures)) (omega (arith, c.if-rows-eq0.false)) c.len-rows.type_inv (ap (λ (x : ℕ). x - 1) c.word.ensures) c.if-kind-variant.true in
    on_ok_both c.mix.result (λ (p : c.mix.new.self.variant.items ≡ replicate c.len-rows.result (c.word.result - 1) ++ c.args.variant ∷ []) (q : c.mix.new.self.offset.items ≡ range_with_len 0 c.len-rows.result ++ 0 ∷ []). rw (p, q) (took_held c.args.self.now.variant.items c.args.self.now.offset.items _ _ c.args.variant c.args.offset c.requires.numbered h)) c.mix.ensures.variants c.mix.ensures.offsets

pub returns-then-kind-variant-clause-variants : goal.returns-then-kind-variant-clause-variants
returns-then-kind-variant-clause-variants c =
    let n = (length-variant_rows (variants_of (owned_forms c.args.self.now.variant.items c.args.self.now.offset.items))) in
    let h = holds_other c.args.self.now.variant.items c.args.self.now.offset.items (c.word.result - 1) c.args.variant c.len-rows.result c.requires.sound (omega (arith, c.if-len-gt0.false, c.len.ensures)) (omega (arith, n, c.len-rows.ensures)) (omega (arith, c.if-rows-eq0.false)) c.len-rows.type_inv (ap (λ (x : ℕ). x - 1) c.word.ensures) c.if-kind-variant.true in
    on_ok_both c.mix.result (λ (p : c.mix.new.self.variant.items ≡ replicate c.len-rows.result (c.word.result - 1) ++ c.args.variant ∷ []) (q : c.mix.new.self.offset.items ≡ range_with_len 0 c.len-rows.result ++ 0 ∷ []). rw (p, q) h.variants) c.mix.ensures.variants c.mix.ensures.offsets

pub returns-then-kind-variant-clause-full : goal.returns-then-kind-variant-clause-full
returns-then-kind-variant-clause-full c = λ e. absurd (c.if-rows.false (omega (arith, e, (length-variant_rows (variants_of (owned_forms c.args.self.now.variant.items c.args.self.now.offset.items))), c.len-rows.ensures)))

pub returns-then-kind-variant-clause-no_memory : goal.returns-then-kind-variant-clause-no_memory
returns-then-kind-variant-clause-no_memory c = λ l s. absurd (c.if-kind-variant.true (ap (λ (x : ℕ). x - 1) c.word.ensures ∙ sole_of_two c.args.self.now.variant.items c.args.self.now.offset.items c.args.variant c.requires.sound (omega (arith, c.if-len-gt0.false, c.len.ensures)) (omega (arith, (length-variant_rows (variants_of (owned_forms c.args.self.now.variant.items c.args.self.now.offset.items))), c.if-rows-eq0.false, c.len-rows.ensures)) s))

pub index_mut-requires : goal.index_mut-requires
index_mut-requires c =
    let t = two_words_of c.requires.sound (omega (arith, c.if-len-gt0.false, c.len.ensures)) (omega (arith, (length-variant_rows (variants_of (owned_forms c.args.self.now.variant.items c.args.self.now.offset.items))), c.if-rows-eq0.false, c.len-rows.ensures)) in
    omega (arith, t.two)

pub returns-clause-ok : goal.returns-clause-ok
returns-clause-ok c =
    let n = (length-variant_rows (variants_of (owned_forms c.args.self.now.variant.items c.args.self.now.offset.items))) in
    let k : c.word.result - 1 ≡ c.args.variant = c.if-kind-variant.false in
    let h = holds_same c.args.self.now.variant.items c.args.self.now.offset.items c.args.variant c.len-rows.result c.requires.sound (omega (arith, c.if-len-gt0.false, c.len.ensures)) (omega (arith, n, c.len-rows.ensures)) (omega (arith, c.if-rows-eq0.false)) (omega (arith, c.len-rows.type_inv, c.if-rows.false)) (sym k ∙ ap (λ (x : ℕ). x - 1) c.word.ensures) in
    took_held c.args.self.now.variant.items c.args.self.now.offset.items _ _ c.args.variant c.args.offset c.requires.numbered h

pub returns-clause-variants : goal.returns-clause-variants
returns-clause-variants c =
    let n = (length-variant_rows (variants_of (owned_forms c.args.self.now.variant.items c.args.self.now.offset.items))) in
    let k : c.word.result - 1 ≡ c.args.variant = c.if-kind-variant.false in
    (holds_same c.args.self.now.variant.items c.args.self.now.offset.items c.args.variant c.len-rows.result c.requires.sound (omega (arith, c.if-len-gt0.false, c.len.ensures)) (omega (arith, n, c.len-rows.ensures)) (omega (arith, c.if-rows-eq0.false)) (omega (arith, c.len-rows.type_inv, c.if-rows.false)) (sym k ∙ ap (λ (x : ℕ). x - 1) c.word.ensures)).variants

pub returns-clause-full : goal.returns-clause-full
returns-clause-full c = λ e. absurd (c.if-rows.false (omega (arith, e, (length-variant_rows (variants_of (owned_forms c.args.self.now.variant.items c.args.self.now.offset.items))), c.len-rows.ensures)))
