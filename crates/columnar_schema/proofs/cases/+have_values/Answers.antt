use Rattle.std.specs.Prelude.{slice_index}
use Rattle.columnar_core.specs.Store.{slices_in}
use Rattle.columnar_schema.specs.BankLaws.{first_told}
use Rattle.columnar_schema.specs.CountLaws.{later_counted}
use Rattle.columnar_schema.specs.TypeLaws.{field_fit, later_fall, later_fit}
use Rattle.columnar_schema.proofs.cases.+have_values.Goals as goal

pub rows_of-requires-clause-fits : goal.rows_of-requires-clause-fits
rows_of-requires-clause-fits t c = rw c.deref.ensures (field_fit c.args.cases.now c.args.offset (slices_in c.args.store.now) c.in-Beside.is c.requires.fits)

pub have_values-requires : goal.have_values-requires
have_values-requires t c = (
  rw c.decreases at (later_fall c.args.cases.now c.deref-then-rows_of-first_count.result.now c.in-Beside.is c.deref-then-rows_of-first_count.ensures),
  (
    rw c.deref-then-rows_of-first_count.ensures (later_counted c.args.cases.now c.in-Beside.is c.requires.counted),
    rw (c.slice_count_of.ensures, c.deref-then-rows_of-first_count-2.ensures, c.deref-then-rows_of-first_count.ensures) (later_fit c.args.cases.now c.args.offset (slices_in c.args.store.now) c.in-Beside.is c.requires.fits),
  ),
)

pub returns-then-rows_of-first_count : goal.returns-then-rows_of-first_count
returns-then-rows_of-first_count t c = first_told c.args.cases.now c.args.offset c.slice_count_of.result (slices_in c.args.store.now) (slice_index c.args.counts.now) (slice_index c.other_counts.result.now) c.rows_of.result c.first_count.result c.have_values.result c.in-Beside.is (rw c.deref-then-rows_of-first_count-2.ensures at c.slice_count_of.ensures) (rw c.deref.ensures at c.rows_of.ensures) c.first_count.ensures c.other_counts.ensures (rw c.deref-then-rows_of-first_count.ensures at c.have_values.ensures) c.if-rows_of-first_count.true
