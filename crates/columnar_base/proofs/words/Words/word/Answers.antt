use Rattle.std.proofs.Common.{◌+◌, ◌*◌, ◌≤◌, List, ℕ, length, ap, ◌∙◌, arith}
use Rattle.columnar_base.specs.WordViews.{word, view_bytes}
use Rattle.columnar_base.specs.WordViewLaws.{word_there, word_is}
use Rattle.columnar_base.proofs.words.Words.word.Goals as goal

pub word_at-requires : goal.word_at-requires
word_at-requires g c = word_there (view_bytes c.words.result) c.args.index (omega (arith, c.requires, ap length c.words.ensures))

pub returns : goal.returns
returns g c =
    let l : 8 * c.args.index + 8 ≤ length (view_bytes c.words.result) = omega (arith, c.requires, ap length c.words.ensures) in
    c.word_at.ensures ∙ word_is (view_bytes c.words.result) c.args.index l ∙ ap (λ (bs : List ℕ). word bs c.args.index) c.words.ensures
