use Rattle.std.proofs.Common.{◌≡◌, ◌∙◌, ℕ, length, refl, sym, ap, arith}
use Rattle.std.specs.Int.{w64, leading_zeros}
use Rattle.std.specs.Int.Count.{leading_unique}
use Rattle.columnar_base.specs.Reads.{Reads}
use Rattle.columnar_base.specs.WordViews.{words_in, le_bytes}
use Rattle.columnar_base.specs.WordViewLaws.{typed_count}
use Rattle.layer_tests.proofs.ranks.place_read.Goals as goal

pub returns-clause-counts : goal.returns-clause-counts
returns-clause-counts c =
    let n : length (words_in (le_bytes c.args.bits.now.counts.items)) ≡ 64 = sym (typed_count c.args.bits.now.counts.items (le_bytes c.args.bits.now.counts.items) refl) ∙ omega (arith, c.len.ensures, c.if-len-ne64.false) in
    let z : 57 ≡ leading_zeros w64 (length (words_in (le_bytes c.args.bits.now.counts.items))) = leading_unique 64 (length (words_in (le_bytes c.args.bits.now.counts.items))) 57 7 refl (omega (arith, n)) (omega (arith, n)) in
    omega (arith, c.select_tallied-place.ensures.reads.0, ap (λ (t : Reads). t.counts) c.new-tally.ensures, z)

pub returns-clause-words : goal.returns-clause-words
returns-clause-words c = omega (arith, c.select_tallied-place.ensures.reads.1, ap (λ (t : Reads). length t.words) c.new-tally.ensures)
