use Rattle.std.proofs.Common.{◌-◌, ◌≤◌, length, arith, sym, ◌∙◌}
use Rattle.columnar_sums.specs.Discriminants.{owned_forms, variants_of}
use Rattle.columnar_sums.specs.DiscriminantLaws.{length-variant_rows, forms_parts}
use Rattle.columnar_sums.specs.FormLaws.{holds_none, holds_fewer, holds_one_left, holds_front, cut_held, cut_to_one, numbered_within, two_words_of, long_offsets}
use Rattle.columnar_sums.proofs.discriminant.grow.DiscriminantVecU8VecU64Truncate.truncate.Goals as goal

pub index_mut-requires : goal.index_mut-requires
index_mut-requires c =
    let t = two_words_of c.requires.sound (omega (arith, c.if-len-eq0.true, c.len.ensures)) (omega (arith, (length-variant_rows (variants_of (owned_forms c.args.self.now.variant.items c.args.self.now.offset.items))), c.if-n-eq0.false, c.requires.in_range)) in
    omega (arith, t.two)

pub word-requires : goal.word-requires
word-requires c =
    let i = c.requires.in_range in
    (numbered_within (c.args.n - 1) (forms_parts c.requires.sound) (omega (arith, c.if-len-eq0.false, c.len.ensures)) (omega (arith, c.if-n-eq0.false, i))).1

pub variant_at-requires : goal.variant_at-requires
variant_at-requires c =
    let i = c.requires.in_range in
    rw c.as_slice.ensures.value (numbered_within (c.args.n - 1) (forms_parts c.requires.sound) (omega (arith, c.if-len-eq0.false, c.len.ensures)) (omega (arith, c.if-n-eq0.false, i))).0

pub index_mut-requires-then-word-n : goal.index_mut-requires-then-word-n
index_mut-requires-then-word-n c = omega (arith, (long_offsets c.args.self.now.variant.items c.args.self.now.offset.items c.requires.sound (omega (arith, c.if-len-eq0.false, c.len.ensures))).1)

pub index_mut-requires-then-word-n-2 : goal.index_mut-requires-then-word-n-2
index_mut-requires-then-word-n-2 c = omega (arith, (long_offsets c.args.self.now.variant.items c.args.self.now.offset.items c.requires.sound (omega (arith, c.if-len-eq0.false, c.len.ensures))).1)

pub returns-then-n-eq0-clause-cut : goal.returns-then-n-eq0-clause-cut
returns-then-n-eq0-clause-cut c = rw (c.clear.ensures.variants, c.clear.ensures.offsets) (cut_held c.args.self.now.variant.items c.args.self.now.offset.items _ _ c.args.n c.requires.in_range (holds_none _ c.args.n c.if-n-eq0.true))

pub returns-then-n-eq0-clause-variants : goal.returns-then-n-eq0-clause-variants
returns-then-n-eq0-clause-variants c = rw (c.clear.ensures.variants, c.clear.ensures.offsets) (holds_none (variants_of (owned_forms c.args.self.now.variant.items c.args.self.now.offset.items)) c.args.n c.if-n-eq0.true).variants

pub returns-then-len-eq0-clause-cut : goal.returns-then-len-eq0-clause-cut
returns-then-len-eq0-clause-cut c =
    let i = c.requires.in_range in
    let n = (length-variant_rows (variants_of (owned_forms c.args.self.now.variant.items c.args.self.now.offset.items))) in
    cut_held c.args.self.now.variant.items c.args.self.now.offset.items _ _ c.args.n i (holds_fewer c.args.self.now.variant.items c.args.self.now.offset.items c.args.n c.requires.sound (omega (arith, c.if-len-eq0.true, c.len.ensures)) (omega (arith, c.if-n-eq0.false)) (omega (arith, c.ranges.n)) (omega (arith, n, i)))

pub returns-then-len-eq0-clause-variants : goal.returns-then-len-eq0-clause-variants
returns-then-len-eq0-clause-variants c =
    let i = c.requires.in_range in
    let n = (length-variant_rows (variants_of (owned_forms c.args.self.now.variant.items c.args.self.now.offset.items))) in
    (holds_fewer c.args.self.now.variant.items c.args.self.now.offset.items c.args.n c.requires.sound (omega (arith, c.if-len-eq0.true, c.len.ensures)) (omega (arith, c.if-n-eq0.false)) (omega (arith, c.ranges.n)) (omega (arith, n, i))).variants

pub returns-then-word-n-clause-cut : goal.returns-then-word-n-clause-cut
returns-then-word-n-clause-cut c =
    let i = c.requires.in_range in
    let m : c.args.n ≤ length c.args.self.now.variant.items = (let w = (numbered_within (c.args.n - 1) (forms_parts c.requires.sound) (omega (arith, c.if-len-eq0.false, c.len.ensures)) (omega (arith, c.if-n-eq0.false, i))).0 in omega arith) in
    let k = rw c.as_slice.ensures.value at c.variant_at.ensures in
    let h = holds_one_left c.args.self.now.variant.items c.args.self.now.offset.items c.truncate.new.self.items c.args.n c.variant_at.result c.requires.sound (omega (arith, c.if-len-eq0.false, c.len.ensures)) (omega (arith, c.if-n-eq0.false)) (omega (arith, c.ranges.n)) m c.variant_at.type_inv k (sym c.word.ensures ∙ c.if-word-n.true) c.truncate.ensures.items in
    rw c.clear-then-word-n.ensures.items (cut_held c.args.self.now.variant.items c.args.self.now.offset.items _ _ c.args.n i h)

pub returns-then-word-n-clause-variants : goal.returns-then-word-n-clause-variants
returns-then-word-n-clause-variants c =
    let i = c.requires.in_range in
    let m : c.args.n ≤ length c.args.self.now.variant.items = (let w = (numbered_within (c.args.n - 1) (forms_parts c.requires.sound) (omega (arith, c.if-len-eq0.false, c.len.ensures)) (omega (arith, c.if-n-eq0.false, i))).0 in omega arith) in
    let k = rw c.as_slice.ensures.value at c.variant_at.ensures in
    let h = holds_one_left c.args.self.now.variant.items c.args.self.now.offset.items c.truncate.new.self.items c.args.n c.variant_at.result c.requires.sound (omega (arith, c.if-len-eq0.false, c.len.ensures)) (omega (arith, c.if-n-eq0.false)) (omega (arith, c.ranges.n)) m c.variant_at.type_inv k (sym c.word.ensures ∙ c.if-word-n.true) c.truncate.ensures.items in
    rw c.clear-then-word-n.ensures.items h.variants

pub returns-else-word-n-clause-cut : goal.returns-else-word-n-clause-cut
returns-else-word-n-clause-cut c =
    let i = c.requires.in_range in
    let m : c.args.n ≤ length c.args.self.now.variant.items = (let w = (numbered_within (c.args.n - 1) (forms_parts c.requires.sound) (omega (arith, c.if-len-eq0.false, c.len.ensures)) (omega (arith, c.if-n-eq0.false, i))).0 in omega arith) in
    let h = holds_front c.args.self.now.variant.items c.args.self.now.offset.items c.args.n c.requires.sound (omega (arith, c.if-len-eq0.false, c.len.ensures)) (omega (arith, c.if-n-eq0.false)) m (λ e. c.if-word-n.false (c.word.ensures ∙ e)) in
    rw (c.truncate-else-word-n.ensures.items, c.truncate-else-word-n-2.ensures.items) (cut_held c.args.self.now.variant.items c.args.self.now.offset.items _ _ c.args.n i h)

pub returns-then-len-eq0-clause-one : goal.returns-then-len-eq0-clause-one
returns-then-len-eq0-clause-one c =
    let i = c.requires.in_range in
    let n = length-variant_rows (variants_of (owned_forms c.args.self.now.variant.items c.args.self.now.offset.items)) in
    cut_to_one c.args.self.now.variant.items c.args.self.now.offset.items _ _ c.args.n i (holds_fewer c.args.self.now.variant.items c.args.self.now.offset.items c.args.n c.requires.sound (omega (arith, c.if-len-eq0.true, c.len.ensures)) (omega (arith, c.if-n-eq0.false)) (omega (arith, c.ranges.n)) (omega (arith, n, i)))

pub returns-then-word-n-clause-one : goal.returns-then-word-n-clause-one
returns-then-word-n-clause-one c =
    let i = c.requires.in_range in
    let m : c.args.n ≤ length c.args.self.now.variant.items = (let w = (numbered_within (c.args.n - 1) (forms_parts c.requires.sound) (omega (arith, c.if-len-eq0.false, c.len.ensures)) (omega (arith, c.if-n-eq0.false, i))).0 in omega arith) in
    let k = rw c.as_slice.ensures.value at c.variant_at.ensures in
    let h = holds_one_left c.args.self.now.variant.items c.args.self.now.offset.items c.truncate.new.self.items c.args.n c.variant_at.result c.requires.sound (omega (arith, c.if-len-eq0.false, c.len.ensures)) (omega (arith, c.if-n-eq0.false)) (omega (arith, c.ranges.n)) m c.variant_at.type_inv k (sym c.word.ensures ∙ c.if-word-n.true) c.truncate.ensures.items in
    rw c.clear-then-word-n.ensures.items (cut_to_one c.args.self.now.variant.items c.args.self.now.offset.items _ _ c.args.n i h)

pub returns-else-word-n-clause-one : goal.returns-else-word-n-clause-one
returns-else-word-n-clause-one c =
    let i = c.requires.in_range in
    let m : c.args.n ≤ length c.args.self.now.variant.items = (let w = (numbered_within (c.args.n - 1) (forms_parts c.requires.sound) (omega (arith, c.if-len-eq0.false, c.len.ensures)) (omega (arith, c.if-n-eq0.false, i))).0 in omega arith) in
    let h = holds_front c.args.self.now.variant.items c.args.self.now.offset.items c.args.n c.requires.sound (omega (arith, c.if-len-eq0.false, c.len.ensures)) (omega (arith, c.if-n-eq0.false)) m (λ e. c.if-word-n.false (c.word.ensures ∙ e)) in
    rw (c.truncate-else-word-n.ensures.items, c.truncate-else-word-n-2.ensures.items) (cut_to_one c.args.self.now.variant.items c.args.self.now.offset.items _ _ c.args.n i h)
