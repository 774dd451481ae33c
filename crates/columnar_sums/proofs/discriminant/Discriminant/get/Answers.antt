use Rattle.std.proofs.Common.{arith, ap, sym, ◌∙◌, length}
use Rattle.columnar_sums.specs.DiscriminantLaws.{forms_parts}
use Rattle.columnar_sums.specs.FormLaws.{is_common_form, common_size, common_row, numbered_within, numbered_row}
use Rattle.columnar_sums.proofs.discriminant.Discriminant.get.Goals as goal

pub word-requires : goal.word-requires
word-requires g c = let n = common_size c.args.index (forms_parts c.requires.sound) (ap length (sym c.variants-variants.ensures) ∙ c.if-variants-eq0.true) c.requires.in_range in omega arith

pub overflow_sub-result : goal.overflow_sub-result
overflow_sub-result g c =
    let n = ap length (sym c.variants-variants.ensures) ∙ c.if-variants-eq0.true in
    let f = is_common_form (forms_parts c.requires.sound) n (common_size c.args.index (forms_parts c.requires.sound) n c.requires.in_range) in
    omega (arith, f.least, c.word.ensures)

pub overflow_cast-result : goal.overflow_cast-result
overflow_cast-result g c =
    let n = ap length (sym c.variants-variants.ensures) ∙ c.if-variants-eq0.true in
    let f = is_common_form (forms_parts c.requires.sound) n (common_size c.args.index (forms_parts c.requires.sound) n c.requires.in_range) in
    omega (arith, f.least, f.most, c.word.ensures)

pub bounds-variants-index : goal.bounds-variants-index
bounds-variants-index g c = rw c.variants-variants.ensures (numbered_within c.args.index (forms_parts c.requires.sound) (omega (arith, c.if-variants-eq0.false, ap length c.variants-variants.ensures)) c.requires.in_range).0

pub word-requires-else-variants-eq0 : goal.word-requires-else-variants-eq0
word-requires-else-variants-eq0 g c = (numbered_within c.args.index (forms_parts c.requires.sound) (omega (arith, c.if-variants-eq0.false, ap length c.variants-variants.ensures)) c.requires.in_range).1

pub returns-then-variants-eq0-clause-variant : goal.returns-then-variants-eq0-clause-variant
returns-then-variants-eq0-clause-variant g c = rw c.word.ensures (common_row c.args.index (forms_parts c.requires.sound) (ap length (sym c.variants-variants.ensures) ∙ c.if-variants-eq0.true) c.requires.in_range).variant

pub returns-then-variants-eq0-clause-earlier : goal.returns-then-variants-eq0-clause-earlier
returns-then-variants-eq0-clause-earlier g c = rw c.word.ensures (common_row c.args.index (forms_parts c.requires.sound) (ap length (sym c.variants-variants.ensures) ∙ c.if-variants-eq0.true) c.requires.in_range).before

pub returns-else-variants-eq0-clause-variant : goal.returns-else-variants-eq0-clause-variant
returns-else-variants-eq0-clause-variant g c = rw c.variants-variants.ensures (numbered_row c.args.index (forms_parts c.requires.sound) (omega (arith, c.if-variants-eq0.false, ap length c.variants-variants.ensures)) c.requires.in_range).variant

pub returns-else-variants-eq0-clause-earlier : goal.returns-else-variants-eq0-clause-earlier
returns-else-variants-eq0-clause-earlier g c = rw (c.variants-variants.ensures, c.word-else-variants-eq0.ensures) (numbered_row c.args.index (forms_parts c.requires.sound) (omega (arith, c.if-variants-eq0.false, ap length c.variants-variants.ensures)) c.requires.in_range).before
