use Rattle.std.proofs.Common.{◌∙◌}
use Rattle.columnar_core.specs.Store.{slices_in}
use Rattle.columnar_schema.specs.CountLaws.{later_counted}
use Rattle.columnar_schema.specs.JudgeLaws.{beside_level}
use Rattle.columnar_schema.specs.TypeLaws.{field_fit, later_fit, later_fall}
use Rattle.columnar_schema.proofs.judge.+rows_agree.Goals as goal

pub rows_of-requires-clause-fits : goal.rows_of-requires-clause-fits
rows_of-requires-clause-fits t c = rw c.deref.ensures (field_fit c.args.schema.now c.args.offset (slices_in c.args.store.now) c.in-Beside.is c.requires.fits)

pub rows_agree-requires : goal.rows_agree-requires
rows_agree-requires t c = (
  rw c.decreases at (later_fall c.args.schema.now c.deref-then-rows-rows_of.result.now c.in-Beside.is c.deref-then-rows-rows_of.ensures),
  (
    rw c.deref-then-rows-rows_of.ensures (later_counted c.args.schema.now c.in-Beside.is c.requires.counted),
    rw (c.slice_count_of.ensures, c.deref-then-rows-rows_of-2.ensures, c.deref-then-rows-rows_of.ensures) (later_fit c.args.schema.now c.args.offset (slices_in c.args.store.now) c.in-Beside.is c.requires.fits),
  ),
)

pub returns-then-rows-rows_of : goal.returns-then-rows-rows_of
returns-then-rows-rows_of t c = beside_level c.args.schema.now c.args.offset c.slice_count_of.result c.args.rows (slices_in c.args.store.now) _ c.in-Beside.is (rw c.deref-then-rows-rows_of-2.ensures at c.slice_count_of.ensures) (rw c.deref.ensures at (c.if-rows-rows_of.true ∙ c.rows_of.ensures)) (rw c.deref-then-rows-rows_of.ensures at c.rows_agree.ensures)
