use Rattle.std.proofs.Common.{arith, ap, length, sym, ◌∙◌}
use Rattle.columnar_core.specs.WordViews.{view_bytes}
use Rattle.columnar_core.specs.WordViewLaws.{length-words_in}
use Rattle.columnar_sums.specs.DiscriminantLaws.{forms_parts}
use Rattle.columnar_sums.specs.FormLaws.{count_common, stand_alone}
use Rattle.columnar_sums.proofs.discriminant.count_rows.Goals as goal
use Rattle.columnar_sums.proofs.discriminant.count_rows.Goals.{else-rows-eq0-via-then-rows-eq0+else-byte_count-eq16, else-rows-eq0-via-else-rows-eq0}

pub word_at-requires : goal.word_at-requires
word_at-requires c = omega (arith, length-words_in (view_bytes c.args.offsets), c.if-byte_count-eq16.true, c.byte_count.ensures)

pub returns-then-byte_count-eq16 : goal.returns-then-byte_count-eq16
returns-then-byte_count-eq16 c = c.word_at.ensures ∙ count_common (forms_parts c.requires) c.if-rows-eq0.true (sym c.byte_count.ensures ∙ c.if-byte_count-eq16.true)

pub returns-else-rows-eq0 : goal.returns-else-rows-eq0
returns-else-rows-eq0 c = sym (ap length (stand_alone (forms_parts c.requires) (λ n m. elim c.else-rows-eq0.branch [
  | else-rows-eq0-via-then-rows-eq0+else-byte_count-eq16 w ↦ w.if-byte_count-eq16.false (w.byte_count.ensures ∙ m)
  | else-rows-eq0-via-else-rows-eq0 w ↦ w.if-rows-eq0.false n
])))
