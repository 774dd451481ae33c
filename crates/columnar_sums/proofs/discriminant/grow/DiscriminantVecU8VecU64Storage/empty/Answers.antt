use Rattle.columnar_sums.specs.FormLaws.{forms_empty, forms_no_rows, forms_no_variants}
use Rattle.columnar_sums.proofs.discriminant.grow.DiscriminantVecU8VecU64Storage.empty.Goals as goal

pub returns-clause-sound : goal.returns-clause-sound
returns-clause-sound c = rw (c.new.ensures.items, c.new-2.ensures.items) forms_empty

pub returns-clause-rows : goal.returns-clause-rows
returns-clause-rows c = rw (c.new.ensures.items, c.new-2.ensures.items) forms_no_rows

pub returns-clause-none : goal.returns-clause-none
returns-clause-none c = rw (c.new.ensures.items, c.new-2.ensures.items) forms_no_variants
