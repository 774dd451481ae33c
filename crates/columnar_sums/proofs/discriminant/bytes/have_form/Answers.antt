use Rattle.std.proofs.Common.{sym, ◌∙◌}
use Rattle.std.proofs.lemmas.Bool.{ne_eqb}
use Rattle.columnar_core.specs.WordViews.{view_words}
use Rattle.columnar_sums.specs.FormLaws.{not_level}
use Rattle.columnar_sums.proofs.discriminant.bytes.have_form.Goals as goal

pub returns-else-words-rows-clause-value : goal.returns-else-words-rows-clause-value
returns-else-words-rows-clause-value g c = ne_eqb _ _ c.if-words-rows.false ∙ sym (not_level c.args.variants.now (view_words c.args.offsets) c.if-rows-gt0.true (λ e. c.if-words-rows.false (c.word_count-words.ensures.count ∙ e)))
