use Rattle.std.proofs.Common.{◌≡◌, ◌∙◌, arith, length}
use Rattle.columnar_sums.specs.Discriminants.{owned_forms, variants_of, times}
use Rattle.columnar_sums.specs.DiscriminantLaws.{length-variant_rows, times_most}
use Rattle.columnar_variants.specs.VariantRunLaws.{alone_from, times_pushed, run_joined, sole_times}
use Rattle.columnar_variants.proofs.run.push_variants.Goals as goal

pub push_each-requires-clause-room : goal.push_each-requires-clause-room
push_each-requires-clause-room c =
    let vs = variants_of (owned_forms c.args.indexes.now.variant.items c.args.indexes.now.offset.items) in
    let n = length-variant_rows vs in
    let m = times_most c.args.variant vs in
    omega (arith, n, m, c.len-before.ensures, c.requires.numbered, c.if-count-before.false, c.len-before.type_inv)

pub set_rows-requires-clause-alone : goal.set_rows-requires-clause-alone
set_rows-requires-clause-alone c =
    let vs = variants_of (owned_forms c.args.indexes.now.variant.items c.args.indexes.now.offset.items) in
    let us = variants_of (owned_forms c.push.new.self.variant.items c.push.new.self.offset.items) in
    let n = length-variant_rows vs in
    let all : times c.args.variant vs ≡ length vs = omega (arith, n, c.len-before.ensures, c.requires.numbered, c.if-earlier-before.false) in
    alone_from c.args.variant us (times_pushed c.args.variant vs us all c.in_ok-push.ensures.variants)

pub returns-clause-variants : goal.returns-clause-variants
returns-clause-variants c =
    let vs = variants_of (owned_forms c.args.indexes.now.variant.items c.args.indexes.now.offset.items) in
    let us = variants_of (owned_forms c.push.new.self.variant.items c.push.new.self.offset.items) in
    let n = length-variant_rows vs in
    let all : times c.args.variant vs ≡ length vs = omega (arith, n, c.len-before.ensures, c.requires.numbered, c.if-earlier-before.false) in
    let before : c.len-before.result ≡ length vs = c.len-before.ensures ∙ n in
    c.set_rows.ensures.variants c.args.variant (times_pushed c.args.variant vs us all c.in_ok-push.ensures.variants) ∙ run_joined c.args.variant c.len-before.result c.args.count vs all before

pub returns-then-count-before-clause-no_memory : goal.returns-then-count-before-clause-no_memory
returns-then-count-before-clause-no_memory c =
    let n = length-variant_rows (variants_of (owned_forms c.args.indexes.now.variant.items c.args.indexes.now.offset.items)) in
    λ s l. absurd (omega (arith, n, l, c.len-before.ensures, c.if-count-before.true))

pub returns-then-earlier-before-clause-no_memory : goal.returns-then-earlier-before-clause-no_memory
returns-then-earlier-before-clause-no_memory c =
    let vs = variants_of (owned_forms c.args.indexes.now.variant.items c.args.indexes.now.offset.items) in
    let n = length-variant_rows vs in
    λ s l. let all = sole_times c.args.variant vs s in absurd (c.if-earlier-before.true (omega (arith, n, all, c.len-before.ensures, c.requires.numbered)))
