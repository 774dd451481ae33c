use Rattle.std.proofs.Common.{arith, ap, sym, ◌∙◌, length}
use Rattle.columnar_sums.specs.DiscriminantLaws.{forms_parts}
use Rattle.columnar_sums.specs.FormLaws.{is_common_form, sole_common, sole_form, sole_none}
use Rattle.columnar_sums.proofs.discriminant.Discriminant.homogeneous.Goals as goal
use Rattle.columnar_sums.proofs.discriminant.Discriminant.homogeneous.Goals.{else-variants-eq0-via-then-variants-eq0+else-size-eq16, else-variants-eq0-via-else-variants-eq0}

pub overflow_sub-result : goal.overflow_sub-result
overflow_sub-result g c =
    let f = is_common_form (forms_parts c.requires) (ap length (sym c.variants.ensures) ∙ c.if-variants-eq0.true) (sym c.size.ensures ∙ c.if-size-eq16.true) in
    omega (arith, f.least, c.word.ensures)

pub overflow_cast-result : goal.overflow_cast-result
overflow_cast-result g c =
    let f = is_common_form (forms_parts c.requires) (ap length (sym c.variants.ensures) ∙ c.if-variants-eq0.true) (sym c.size.ensures ∙ c.if-size-eq16.true) in
    omega (arith, f.least, f.most, c.word.ensures)

pub returns-then-size-eq16 : goal.returns-then-size-eq16
returns-then-size-eq16 g c =
    let p = forms_parts c.requires in
    let e = sole_common p (ap length (sym c.variants.ensures) ∙ c.if-variants-eq0.true) (sym c.size.ensures ∙ c.if-size-eq16.true) in
    let f = sole_form _ p (sym e) in
    rw c.word.ensures (record { sole = e; next = f.next; bare = f.bare; common = f.words })

pub returns-else-variants-eq0 : goal.returns-else-variants-eq0
returns-else-variants-eq0 g c = record {
  sole = sole_none (forms_parts c.requires) (λ n m. elim c.else-variants-eq0.branch [
    | else-variants-eq0-via-then-variants-eq0+else-size-eq16 w ↦ w.if-size-eq16.false (w.size.ensures ∙ m)
    | else-variants-eq0-via-else-variants-eq0 w ↦ w.if-variants-eq0.false (ap length c.variants.ensures ∙ n)
  ]);
  next = tt;
  bare = tt;
  common = tt;
}
