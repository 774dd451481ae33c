use Rattle.std.proofs.Common.{◌∙◌, ℕ, List, [], sym, append-nil, arith}
use Rattle.columnar_core.specs.WordViews.{bit_words, view_bytes, le_bytes}
use Rattle.columnar_bits.specs.BoolColumns.{bits_in}
use Rattle.columnar_bits.specs.BoolLaws.{bools_parts, two_words}
use Rattle.columnar_sums.specs.PackedLaws.{none_counted}
use Rattle.columnar_sums.specs.RankLaws.{ranks_sound}
use Rattle.columnar_sums.specs.RankChangeLaws.{ranked_on}
use Rattle.columnar_sums.proofs.rank_select.grow.counted.Goals as goal

pub count_on-requires-clause-exact : goal.count_on-requires-clause-exact
count_on-requires-clause-exact c = none_counted (bit_words (view_bytes c.words.result) (view_bytes c.words-2.result)) c.reserve.new.self.items (c.in_ok-reserve.ensures.items ∙ c.new-counts.ensures.items)

pub count_on-requires-clause-tail : goal.count_on-requires-clause-tail
count_on-requires-clause-tail c = rw c.words-2.ensures (omega (arith, two_words (bools_parts c.requires)))

pub returns-clause-sound : goal.returns-clause-sound
returns-clause-sound c =
    let a : List ℕ = le_bytes c.args.values.values.items in
    let b : List ℕ = le_bytes c.args.values.tail in
    ranks_sound (ranked_on {c = []} {a = a} {b = b} {a' = a} {b' = b} {cs = []} c.count_on.new.counts.items (bools_parts c.requires) (sym (append-nil (bits_in a b))) (rw (c.words.ensures, c.words-2.ensures) at c.in_ok-count_on.ensures.ok)).sound
