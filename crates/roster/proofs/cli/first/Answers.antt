use Rattle.std.proofs.Common.{refl, ap, ◌∙◌}
use Rattle.columnar.specs.Elements.{words_format}
use Rattle.roster.proofs.Seven.{told_of_seven}
use Rattle.roster.proofs.cli.first.Goals as goal

pub returns : goal.returns
returns c =
    let row = ap (λ x. words_format.rows x) c.stash_of-opened.ensures.content ∙ c.in_ok-words.ensures.rows in
    (refl, told_of_seven c.as_slice.result.now _ c.len.result _ (c.as_slice.ensures.value ∙ c.in_ok-words.ensures.words) row c.len.ensures c.in_ok-text.ensures)
