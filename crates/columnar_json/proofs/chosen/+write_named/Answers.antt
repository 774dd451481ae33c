use Rattle.std.proofs.Common.{sym, ◌∙◌}
use Rattle.columnar_core.specs.Store.{slices_in}
use Rattle.columnar_schema.specs.CountLaws.{later_counted}
use Rattle.columnar_schema.specs.TypeLaws.{field_fit, later_fall, later_fit}
use Rattle.columnar_json.specs.ChosenLaws.{later_field, this_field}
use Rattle.columnar_json.specs.PartLaws.{later_in, later_row}
use Rattle.columnar_json.specs.Stored.{stored_row}
use Rattle.columnar_json.specs.Views.{field_in}
use Rattle.columnar_json.proofs.chosen.+write_named.Goals as goal

pub write_part-requires-clause-fits : goal.write_part-requires-clause-fits
write_part-requires-clause-fits t c = rw c.deref-then-has_name.ensures (field_fit c.args.schema.now c.args.offset (slices_in c.args.store.now) c.in-Beside.is c.requires.fits)

pub write_part-requires-clause-in_range : goal.write_part-requires-clause-in_range
write_part-requires-clause-in_range t c =
    let r = later_in c.args.schema.now c.args.offset (slices_in c.args.store.now) c.args.index c.in-Beside.is c.requires.in_range in
    rw c.deref-then-has_name.ensures r.0

pub write_named-requires : goal.write_named-requires
write_named-requires t c =
    let r = later_in c.args.schema.now c.args.offset (slices_in c.args.store.now) c.args.index c.in-Beside.is c.requires.in_range in (
      rw c.decreases at (later_fall c.args.schema.now c.deref-else-has_name-2.result.now c.in-Beside.is c.deref-else-has_name-2.ensures),
      (
        rw c.deref-else-has_name-2.ensures (later_counted c.args.schema.now c.in-Beside.is c.requires.counted),
        (
          rw (c.slice_count_of.ensures, c.deref-else-has_name.ensures, c.deref-else-has_name-2.ensures) (later_fit c.args.schema.now c.args.offset (slices_in c.args.store.now) c.in-Beside.is c.requires.fits),
          rw (c.slice_count_of.ensures, c.deref-else-has_name.ensures, c.deref-else-has_name-2.ensures) r.1,
        ),
      ),
    )

pub returns-then-has_name : goal.returns-then-has_name
returns-then-has_name t c = this_field (field_in c.args.form) c.args.name.now c.args.schema.now (stored_row c.args.schema.now (slices_in c.args.store.now) c.args.offset c.args.index) _ _ c.args.out.now.items c.write_part.new.out.items c.write_part.result c.in-Beside.is (later_row c.args.schema.now c.args.offset (slices_in c.args.store.now) c.args.index c.in-Beside.is c.requires.in_range) (rw c.deref.ensures at (sym c.has_name.ensures ∙ c.if-has_name.true)) (rw c.deref-then-has_name.ensures at c.write_part.ensures)

pub returns-else-has_name : goal.returns-else-has_name
returns-else-has_name t c = later_field (field_in c.args.form) c.args.name.now c.args.schema.now (stored_row c.args.schema.now (slices_in c.args.store.now) c.args.offset c.args.index) _ _ c.args.out.now.items c.write_named.new.out.items c.write_named.result c.in-Beside.is (later_row c.args.schema.now c.args.offset (slices_in c.args.store.now) c.args.index c.in-Beside.is c.requires.in_range) (rw c.deref.ensures at (sym c.has_name.ensures ∙ c.if-has_name.false)) (rw (c.slice_count_of.ensures, c.deref-else-has_name.ensures, c.deref-else-has_name-2.ensures) at c.write_named.ensures)
