use Rattle.std.proofs.Common.{sym, arith}
use Rattle.std.specs.Prelude.{slice_index}
use Rattle.columnar_variants.specs.VariantCountLaws.{told_from, told_not}
use Rattle.columnar_variants.proofs.count.are_level.Goals as goal

pub returns-then-lengths-column : goal.returns-then-lengths-column
returns-then-lengths-column c = sym (told_not c.args.lengths.now (slice_index c.args.counts.now) c.loop-column.column c.loop-column-test.true (λ h. c.if-lengths-column.true (rw c.count_of.ensures h)))

pub returns : goal.returns
returns c = sym (told_from c.args.lengths.now (slice_index c.args.counts.now) (λ i l. c.loop-column.invariant i (omega (arith, l, c.loop-column-test.false))))
