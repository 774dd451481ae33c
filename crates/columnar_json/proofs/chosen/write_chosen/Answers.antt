use Rattle.std.proofs.Common.{sym, ◌∙◌}
use Rattle.columnar_core.specs.Store.{slices_in}
use Rattle.columnar_schema.specs.CountLaws.{others_counted}
use Rattle.columnar_schema.specs.TypeLaws.{first_fit, others_fit}
use Rattle.columnar_json.specs.ChosenLaws.{first_field, only_field, other_field}
use Rattle.columnar_json.specs.PartLaws.{fields_in, fields_row, only_row}
use Rattle.columnar_json.specs.Stored.{stored_row}
use Rattle.columnar_json.specs.Views.{field_in}
use Rattle.columnar_json.proofs.chosen.write_chosen.Goals as goal

pub write_part-requires-clause-fits : goal.write_part-requires-clause-fits
write_part-requires-clause-fits c = rw c.deref-then-has_name.ensures (first_fit c.args.schema.now c.args.offset (slices_in c.args.store.now) c.in-Tuple.is c.requires.fits)

pub write_part-requires-clause-in_range : goal.write_part-requires-clause-in_range
write_part-requires-clause-in_range c =
    let r = fields_in c.args.schema.now c.args.offset (slices_in c.args.store.now) c.args.index c.in-Tuple.is c.requires.in_range in
    rw c.deref-then-has_name.ensures r.0

pub write_named-requires-clause-counted : goal.write_named-requires-clause-counted
write_named-requires-clause-counted c = rw c.deref-else-has_name-2.ensures (others_counted c.args.schema.now c.in-Tuple.is c.requires.counted)

pub write_named-requires-clause-fits : goal.write_named-requires-clause-fits
write_named-requires-clause-fits c = rw (c.slice_count_of.ensures, c.deref-else-has_name.ensures, c.deref-else-has_name-2.ensures) (others_fit c.args.schema.now c.args.offset (slices_in c.args.store.now) c.in-Tuple.is c.requires.fits)

pub write_named-requires-clause-in_range : goal.write_named-requires-clause-in_range
write_named-requires-clause-in_range c =
    let r = fields_in c.args.schema.now c.args.offset (slices_in c.args.store.now) c.args.index c.in-Tuple.is c.requires.in_range in
    rw (c.slice_count_of.ensures, c.deref-else-has_name.ensures, c.deref-else-has_name-2.ensures) r.1

pub returns-in-Solo : goal.returns-in-Solo
returns-in-Solo c = only_field (field_in c.args.form) c.args.name.now c.args.schema.now (stored_row c.args.schema.now (slices_in c.args.store.now) c.args.offset c.args.index) _ c.args.out.now.items c.write_if_named.new.out.items c.write_if_named.result c.in-Solo.is (only_row c.args.schema.now c.args.offset (slices_in c.args.store.now) c.args.index c.in-Solo.is c.requires.in_range) (rw c.deref.ensures at c.write_if_named.ensures)

pub returns-then-has_name : goal.returns-then-has_name
returns-then-has_name c = first_field (field_in c.args.form) c.args.name.now c.args.schema.now (stored_row c.args.schema.now (slices_in c.args.store.now) c.args.offset c.args.index) _ _ c.args.out.now.items c.write_part.new.out.items c.write_part.result c.in-Tuple.is (fields_row c.args.schema.now c.args.offset (slices_in c.args.store.now) c.args.index c.in-Tuple.is c.requires.in_range) (rw c.deref-in-Tuple.ensures at (sym c.has_name.ensures ∙ c.if-has_name.true)) (rw c.deref-then-has_name.ensures at c.write_part.ensures)

pub returns-else-has_name : goal.returns-else-has_name
returns-else-has_name c = other_field (field_in c.args.form) c.args.name.now c.args.schema.now (stored_row c.args.schema.now (slices_in c.args.store.now) c.args.offset c.args.index) _ _ c.args.out.now.items c.write_named.new.out.items c.write_named.result c.in-Tuple.is (fields_row c.args.schema.now c.args.offset (slices_in c.args.store.now) c.args.index c.in-Tuple.is c.requires.in_range) (rw c.deref-in-Tuple.ensures at (sym c.has_name.ensures ∙ c.if-has_name.false)) (rw (c.slice_count_of.ensures, c.deref-else-has_name.ensures, c.deref-else-has_name-2.ensures) at c.write_named.ensures)
