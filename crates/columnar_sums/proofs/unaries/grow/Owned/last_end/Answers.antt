use Rattle.std.proofs.Common.{◌≡◌, ◌-◌, ◌≤◌, ◌∙◌, ap, sym, ℕ, List, length, arith}
use Rattle.columnar_core.specs.WordViews.{le_bytes}
use Rattle.columnar_bits.specs.BoolColumns.{bits_in}
use Rattle.columnar_sums.specs.Counting.{ones}
use Rattle.columnar_sums.specs.CountLaws.{ones_le}
use Rattle.columnar_sums.specs.RankChangeLaws.{length-truths_rows}
use Rattle.columnar_sums.specs.UnaryChangeLaws.{last_end, last_is_end}
use Rattle.columnar_sums.proofs.unaries.grow.Owned.last_end.Goals as goal

pub overflow_sub-result : goal.overflow_sub-result
overflow_sub-result c =
    let a : List ℕ = le_bytes c.args.self.now.bits.values.values.items in
    let b : List ℕ = le_bytes c.args.self.now.bits.values.tail in
    omega (arith, c.rank.ensures.value, ones_le (bits_in a b) c.len-len.result)

pub returns : goal.returns
returns c =
    let a : List ℕ = le_bytes c.args.self.now.bits.values.values.items in
    let b : List ℕ = le_bytes c.args.self.now.bits.values.tail in
    let e : c.len-len.result ≡ length (bits_in a b) = omega (arith, c.len-len.ensures, length-truths_rows a b) in
    let t : c.rank.result ≡ ones (bits_in a b) (length (bits_in a b)) = c.rank.ensures.value ∙ ap (ones (bits_in a b)) e in
    let d : c.len-len.result - c.rank.result ≡ last_end a b = omega (arith, e, t) in
    d ∙ sym (last_is_end (le_bytes c.args.self.now.bits.counts.items) a b c.requires)
